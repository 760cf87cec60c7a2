-- What the code's indices need of the bytes that a record is read from.
use Rattle.std.specs.Prelude.{ℕ, ◌+◌, ◌≤◌, ◌<◌, List, length}

-- a record of n bytes stands at the front of the rest, and no place in it passes the largest usize
pub record Holds (n : ℕ) (rest : List ℕ) (at : ℕ) : Type 0 where
  pub whole : n ≤ length rest
  pub fits : at + length rest < 18446744073709551616
