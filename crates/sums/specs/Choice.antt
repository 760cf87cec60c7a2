-- A choice by a test, of which only the side taken is computed.
use Rattle.std.specs.Prelude.{Bool, true, false}
use Prim.{Unit, tt}

module _ {A : Type 0} where
  abbrev pub choose : Bool → (Unit {0} → A) → (Unit {0} → A) → A
  choose true one two = one tt
  choose false one two = two tt
