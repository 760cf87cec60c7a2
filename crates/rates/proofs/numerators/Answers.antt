-- `numerators` meets its contract. The loop's invariant: the numerators of the first k chains stand in their places, each below 2^64
-- (`Lowerings`).
use mathlib.Core.Path.{sym, ◌∙◌}
use native.Mathlib.Omega.{arith}
use Rattle.std.proofs.Common.{◌≡◌, ℕ, ◌≤◌, ◌<◌, length, take, drop, replicate}
use Rattle.std.proofs.lemmas.List.{take-append-drop, set-append_left, length-take-le}
use Rattle.rates.proofs.NumberedLaws.{lowerings_first, lowerings_turn, lowerings_stop, lowerings_last}
use Rattle.rates.proofs.numerators.Goals as goal

places : (n : ℕ) → n ≤ 8 → length (take n (replicate {A = ℕ} 8 0)) ≡ n
places n h = length-take-le n _ h

pub loop-k-init : goal.loop-k-init
loop-k-init c = rw (take-append-drop {A = ℕ} c.args.m.now.chains (replicate 8 0)) (lowerings_first _ c.requires.guaranteed.0 _)

pub returns-in_err-number-clause-numbers : goal.returns-in_err-number-clause-numbers
returns-in_err-number-clause-numbers c =
    let g = c.requires.guaranteed.0 in
    c.from_residual.ensures
    ∙ lowerings_stop _ g (omega (arith, places _ g.chains_range.1, c.loop-k-test.true)) c.numerator.ensures.value c.in_err-number.was

pub loop-k-preserved : goal.loop-k-preserved
loop-k-preserved c =
    let g = c.requires.guaranteed.0 in
    let within : c.loop-k.k < length c.loop-k.number-items = omega (arith, c.loop-k.auto.number-items, c.loop-k-test.true) in
    let turn : c.loop-k.k < c.args.m.now.chains = omega (arith, places _ g.chains_range.1, c.loop-k-test.true) in
    rw (sym (set-append_left c.loop-k.number-items (drop c.args.m.now.chains (replicate {A = ℕ} 8 0)) c.loop-k.k c.in_ok-number.field-0 within))
    (lowerings_turn _ g c.loop-k.invariant turn c.numerator.ensures.value c.in_ok-number.was c.numerator.ensures.kept)

pub returns-clause-numbers : goal.returns-clause-numbers
returns-clause-numbers c =
    let g = c.requires.guaranteed.0 in lowerings_last _ g c.loop-k.invariant (omega (arith, places _ g.chains_range.1, c.loop-k-test.false))
