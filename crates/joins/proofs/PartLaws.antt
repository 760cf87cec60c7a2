-- Parts of the area: a part's cell is the whole's, and a cell set in a part that is put back is the cell set in the whole.
use Prim.Native.Nat.{ℕ, ◌+◌, ◌-◌, ◌≤◌, ◌<◌}
use mathlib.Core.Path.{◌≡◌}
use mathlib.Core.List.{List, ◌++◌}
use native.Mathlib.Omega.{arith}
use borrow.Rule.Slice.PartMut.{put_mid}
use lib.ListN.{get_or, set, take, drop, take-append-drop}
use lib.Seq.{get_or-take, get_or-drop, take-set-lt, take-set-le, drop-set-lt, drop-set-add}

pub part_at : (s : List ℕ) (f t i : ℕ) → f + i < t → get_or (take (t - f) (drop f s)) i 0 ≡ get_or s (f + i) 0
part_at s f t i h = let l : i < t - f = omega arith in rw (get_or-take, get_or-drop)

pub put_set : (s : List ℕ) (f t i v : ℕ) → f + i < t → put_mid f (t - f) s (set (take (t - f) (drop f s)) i v) ≡ set s (f + i) v
put_set s f t i v h =
    let l : i < t - f = omega arith in
    let m : f ≤ f + i = omega arith in
    let e : set (take (t - f) (drop f s)) i v ++ drop (t - f) (drop f s) ≡ set (drop f s) i v = rw (← take-set-lt (t - f) (drop f s) i v l, ← drop-set-lt (t - f) (drop f s) i v l) (take-append-drop (t - f) _) in
    let g : take f s ++ set (drop f s) i v ≡ set s (f + i) v = rw (← take-set-le f s (f + i) v m, ← drop-set-add f s i v) (take-append-drop f _) in
    rw e g
