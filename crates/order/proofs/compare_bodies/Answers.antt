-- Two prefixes are compared as prefixes, and other bodies octet by octet.
use Rattle.order.proofs.TurnLaws.{order-prefixes, order-octets}
use borrow.Author.Rules.{rules}
use Rattle.order.proofs.compare_bodies.Goals as goal

pub returns-then-shape : goal.returns-then-shape
returns-then-shape c = search (order-prefixes, rules)

pub returns : goal.returns
returns c = search (order-octets, rules)
