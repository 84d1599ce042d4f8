-- One law for each return.
use Rattle.packet.proofs.HeaderLaws.{too-few-six, by-version}
use borrow.Author.Rules.{rules}
use Rattle.packet.proofs.is_unusable_ipv6.Goals as goal

pub returns-then-octets-lt40 : goal.returns-then-octets-lt40
returns-then-octets-lt40 c = search (too-few-six, rules)

pub returns : goal.returns
returns c = search (by-version, rules)
