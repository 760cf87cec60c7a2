-- What is asked, and its plan, case by case: a file is refused, a chain to lower is, or the table has the cells and the pairs.
use Prim.Native.Nat.{ℕ}
use mathlib.Core.Path.{◌≡◌, refl, sym, ap, subst, ◌∙◌}
use mathlib.Core.List.{List}
use Rattle.std.specs.Prelude.{Result, Ok, Err}
use Rattle.modelfile.specs.File.{read_file}
use Rattle.modelfile.specs.declared.Model.{Model}
use Rattle.modelfile.specs.declared.Reading.{Reading}
use Rattle.modelfile.specs.declared.Refusal.{Refusal as FileRefusal}
use Rattle.modelfile.proofs.Guaranteed.{Guaranteed}
use Rattle.modelfile.proofs.AcceptedLaws.{accepted}
use Rattle.calls.specs.Answers.{planned_as}
use Rattle.calls.specs.Asked.{Asked, refused, lowering, ask}
use Rattle.calls.specs.Plan.{plan}
use Rattle.calls.specs.declared.Refusal.{Refusal}
use Rattle.plan.specs.Lowered.{lowered_of}
use Rattle.plan.specs.Asking.{Ready, asked_of, RunFor}
use Rattle.plan.specs.declared.Run.{Run}

pub run_refused : {asked : Asked} (r : Refusal) → refused r ≡ asked → RunFor asked (Err r)
unfolding asked_of
run_refused r e = record { answer = e; ready = tt }

pub run_same : {a b : Asked} {r : Result Run Refusal} → a ≡ b → RunFor a r → RunFor b r
run_same {r = r} e w = subst (λ x. RunFor x r) e w

module _ (m : Model) (lower : ℕ) where
  pub lowering-refused : {r : Refusal} → lowered_of m (Err r) ≡ lowering m lower → refused r ≡ lowering m lower
  unfolding lowered_of
  lowering-refused e = e

  pub lowering_granted : {run : Run} → m ≡ run.model → lowered_of m (Ok run.windows) ≡ lowering m lower → Ready run → RunFor (lowering m lower) (Ok run)
  unfolding lowered_of asked_of
  lowering_granted {run = run} s e w = record { answer = rw (← s) e; ready = w }

module _ (file : List ℕ) (lower : ℕ) (r : Reading) (d : r ≡ read_file file) where
  pub file_refused : {why : FileRefusal} → r.verdict ≡ Err why → refused (Refusal.File why) ≡ ask file lower
  unfolding ask
  file_refused e = rw (← d, e) refl

  pub file_guaranteed : r.verdict ≡ Ok tt → Guaranteed r.model
  file_guaranteed e = subst (λ (x : Reading). Guaranteed x.model) (sym d) (accepted file (sym (ap (λ (x : Reading). x.verdict) d) ∙ e))

  pub file_asked : r.verdict ≡ Ok tt → lowering r.model lower ≡ ask file lower
  unfolding ask
  file_asked e = rw (← d, e) refl

-- ---- the plan

module _ (file : List ℕ) (lower : ℕ) where
  pub plan-refused : {r : Refusal} → RunFor (ask file lower) (Err r) → Err r ≡ plan file lower
  unfolding plan asked_of
  plan-refused w = rw (← w.answer) refl

  pub plan_granted : {run : Run} → RunFor (ask file lower) (Ok run) → planned_as run.table.cells run.table.pairs ≡ plan file lower
  unfolding plan asked_of
  plan_granted w = let b = w.ready.tabled in rw (← w.answer) (λ i. planned_as (b.cells_are i) (b.pairs_are i))
