-- What a guaranteed model gives the table: its centres and routes by its loads, and its tree by its nodes.
use Prim.Native.Nat.{ℕ, zero, suc, ◌+◌, ◌-◌, ◌*◌, ◌≤◌, ◌<◌}
use mathlib.Core.Path.{◌≡◌, sym, ap, ◌∙◌}
use mathlib.Core.List.{[], map}
use native.Mathlib.Omega.{arith}
use lib.ListN.{length, get_or, take}
use lib.Seq.{length-take-le}
use Rattle.sums.specs.Lists.{from, by_number}
use Rattle.sums.proofs.ListLaws.{get_or-map_in, length_from, get_or-from}
use Rattle.sums.proofs.PermLaws.{perm_length}
use Rattle.network.specs.Centre.{Centre, visit, queue}
use Rattle.network.specs.Coverage.{visits}
use Rattle.network.proofs.PostorderLaws.{nodes_in}
use Rattle.modelfile.specs.Network.{loads_of, centres_of, tree_of}
use Rattle.modelfile.specs.declared.Model.{Model}
use Rattle.modelfile.proofs.Guaranteed.{Guaranteed}
use Rattle.calls.proofs.FileLaws.{length_centres, length_routes, visits_is}
use Rattle.plan.specs.Table.{routes_in}
use Rattle.plan.specs.Steps.{loaded_by}
use Rattle.plan.proofs.StackLaws.{nodes_under}

module _ (m : Model) (g : Guaranteed m) where
  pub loads_agree : (k c : ℕ) → k < m.chains → 1 ≤ c → c ≤ length (routes_in m) → loaded_by m.loads k c ≡ visits (routes_in m) (suc k) c
  unfolding loaded_by
  loads_agree k zero h low high = absurd (omega arith)
  loads_agree k (suc c) h low high =
      let d : (suc c - 1) * 8 + k ≡ c * 8 + k = omega arith in
      ap (λ i. visit (get_or m.loads i 0)) d ∙ sym (visits_is m g c k (omega (arith, length_routes m g)) h)

  -- the centre with a number is the queue of its loads
  pub centre_at_lem : (c : ℕ) (d : Centre) → 1 ≤ c → c ≤ m.centres → by_number (centres_of m) c d ≡ queue (loads_of m c)
  unfolding by_number centres_of
  centre_at_lem zero d low high = absurd (omega arith)
  centre_at_lem (suc c) d low high =
      let e : 1 + c ≡ suc c = omega arith in
      get_or-map_in (λ c. queue (loads_of m c)) (from 1 m.centres) c d 0 (omega (arith, length_from 1 m.centres)) ∙ ap (λ n. queue (loads_of m n)) (get_or-from 1 m.centres c (omega arith) ∙ e)

  pub route_at : (c : ℕ) → 1 ≤ c → c ≤ m.centres → by_number (routes_in m) c [] ≡ map visit (loads_of m c)
  unfolding by_number
  route_at zero low high = absurd (omega arith)
  route_at (suc c) low high =
      get_or-map_in (λ c. c.route) (centres_of m) c [] (queue []) (omega (arith, length_centres m g)) ∙ ap (λ x. x.route) (centre_at_lem (suc c) (queue []) low high)

  pub tree_count : nodes_in (tree_of m) ≡ length (take m.count m.nodes)
  tree_count = omega (arith, nodes_under (tree_of m), perm_length g.leaves, length_from 1 m.centres, g.count_is, length-take-le m.count m.nodes (omega (arith, g.nodes_long, g.count_range)))
