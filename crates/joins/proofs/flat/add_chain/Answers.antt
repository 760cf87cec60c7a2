-- `add_chain` meets its contract: a chain is shared where neither child's stride is 0, and closed where the join's is.
use mathlib.Core.Bool.{true, false, ◌&&◌}
use mathlib.Core.Path.{◌≡◌}
use native.Mathlib.Omega.{arith}
use lib.Dec.{ltb}
use Rattle.std.proofs.lemmas.Grind.{common_steps}
use Rattle.joins.proofs.BuildLaws.{chain_is, shared_added, closed_added, single_added, none_added}
use Rattle.joins.proofs.flat.add_chain.Goals as goal

pub returns-then-c-eq0 : goal.returns-then-c-eq0
returns-then-c-eq0 c =
    let x = c.args in
    let s : true ≡ (ltb 0 x.a && ltb 0 x.b) = grind (arith, common_steps) in
    let o : false ≡ ltb 0 x.c = grind (arith, common_steps) in
    (chain_is _ _ _ _ _ _ _ s o (closed_added x.u _ _ x.n x.a x.b x.c (omega arith)), record { loops = omega arith; rows = omega arith; count = omega arith })

pub returns-then-c-eq0-2 : goal.returns-then-c-eq0-2
returns-then-c-eq0-2 c =
    let x = c.args in
    let s : false ≡ (ltb 0 x.a && ltb 0 x.b) = grind (arith, common_steps) in
    let o : false ≡ ltb 0 x.c = grind (arith, common_steps) in
    (chain_is _ _ _ _ _ _ _ s o (none_added x.u _ _ x.n x.a x.b x.c), record { loops = omega arith; rows = omega arith; count = omega arith })

pub returns-then-shared-2 : goal.returns-then-shared-2
returns-then-shared-2 c =
    let x = c.args in
    let s : true ≡ (ltb 0 x.a && ltb 0 x.b) = grind (arith, common_steps) in
    let o : true ≡ ltb 0 x.c = grind (arith, common_steps) in
    (chain_is _ _ _ _ _ _ _ s o (shared_added x.u _ _ x.n x.a x.b x.c (omega arith) (omega arith)), record { loops = omega arith; rows = omega arith; count = omega arith })

pub returns : goal.returns
returns c =
    let x = c.args in
    let s : false ≡ (ltb 0 x.a && ltb 0 x.b) = grind (arith, common_steps) in
    let o : true ≡ ltb 0 x.c = grind (arith, common_steps) in
    (chain_is _ _ _ _ _ _ _ s o (single_added x.u _ _ x.n x.a x.b x.c (omega arith)), record { loops = omega arith; rows = omega arith; count = omega arith })
