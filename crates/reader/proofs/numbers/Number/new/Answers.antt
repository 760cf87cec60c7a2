-- `reader::numbers::Number::new`. The choice in `numbered` is by the test that the code makes.
use Rattle.reader.specs.Numbers.{numbered}
use Rattle.reader.proofs.numbers.Number.new.Goals as goal

pub returns-then-is_outside : goal.returns-then-is_outside
unfolding numbered
returns-then-is_outside g c = rw (← c.is_outside.ensures, c.if-is_outside.true)

pub returns : goal.returns
unfolding numbered
returns g c = rw (← c.is_outside.ensures, c.if-is_outside.false)
