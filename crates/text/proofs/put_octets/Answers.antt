-- What is left to print gives the same at every turn, and nothing is left at the end.
use borrow.Author.Rules.{rules}
use lib.ListN.{drop_of_length-le}
use Rattle.text.proofs.PrintLaws.{put-more, put_all}
use Rattle.text.proofs.put_octets.Goals as goal

pub loop-octet-preserved : goal.loop-octet-preserved
loop-octet-preserved c = (search rules, search rules, search rules, search (put-more, rules))

pub returns : goal.returns
returns c = (search (put_all, drop_of_length-le, rules), search rules)
