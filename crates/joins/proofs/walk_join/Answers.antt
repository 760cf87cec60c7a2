-- `walk_join` meets its contract: the flat lists of the join are sound, and they list the network's own pairs.
use mathlib.Core.Path.{refl}
use native.Mathlib.Omega.{arith}
use Rattle.joins.proofs.JoinLaws.{strides-length, used_sound, used-walk}
use Rattle.joins.proofs.walk_join.Goals as goal

pub flatten-used-requires : goal.flatten-used-requires
flatten-used-requires c =
    let j = c.requires in
    let s = strides-length j in
    (refl, refl, record { few = j.chains; lefts_length = s.0; rights_length = s.1; owns_length = s.2; messages = j.messages })

pub walk_loops-requires : goal.walk_loops-requires
walk_loops-requires c = used_sound c.requires c.flatten-used.result _ _ c.flatten-used.ensures.0 (omega arith)

pub returns : goal.returns
returns c = λ j. used-walk j c.flatten-used.result _ _ c.flatten-used.ensures.0 _ _ c.walk_loops.ensures.0
