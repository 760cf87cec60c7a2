-- Document 01, "What the base does": "Centre numbers run from 1 to 16 and chain numbers from 1 to 8, and so do the two counts in the
-- size record .. Windows are 0 to 15, loads 1 to 65535".
use Rattle.std.specs.Prelude.{ℕ, Bool, ◌||◌, ltb}

abbrev pub last_centre : ℕ
last_centre = 16

abbrev pub last_chain : ℕ
last_chain = 8

abbrev pub largest_window : ℕ
largest_window = 15

abbrev pub largest_load : ℕ
largest_load = 65535

-- n is not one of first .. last
unfoldable pub outside : ℕ → ℕ → ℕ → Bool
outside first last n = ltb n first || ltb last n
