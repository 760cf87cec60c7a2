-- `binomial` meets its contract: the entry that it reads is the binomial, by the test over the whole table.
use Rattle.binomials.proofs.Entries.{table, table_at}
use Rattle.binomials.proofs.binomial.Goals as goal

pub returns : goal.returns
unfolding table
returns c = table_at c.args.n c.args.k c.requires.0 c.requires.1
