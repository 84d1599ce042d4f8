-- One law for each return; the header's length has four bits, so its octets fit.
use native.Mathlib.Omega.{arith}
use Rattle.packet.proofs.HeaderLaws.{words-bounded, too_few, other-version, short-header, by_total}
use borrow.Author.Rules.{rules}
use Rattle.packet.proofs.is_unusable_ipv4.Goals as goal

pub returns-then-octets-lt20 : goal.returns-then-octets-lt20
returns-then-octets-lt20 c = search (too_few, rules)

pub returns-then-version-family : goal.returns-then-version-family
returns-then-version-family c = search (other-version, rules)

pub returns-then-words-lt5 : goal.returns-then-words-lt5
returns-then-words-lt5 c = search (short-header, rules)

pub overflow_cast-header : goal.overflow_cast-header
overflow_cast-header c = omega (arith, words-bounded c.args.octets.now)

pub overflow_mul-header : goal.overflow_mul-header
overflow_mul-header c = omega (arith, words-bounded c.args.octets.now)

pub returns : goal.returns
returns c = search (by_total, rules)
