-- None, one and two words are taken one by one.
use Prim.Native.Nat.{◌+◌}
use native.Mathlib.Omega.{arith}
use Rattle.route.proofs.RouteLaws.{no_word, one_word, two-words}
use borrow.Author.Rules.{rules}
use Rattle.route.proofs.number_in.Goals as goal

pub returns-then-count-eq0 : goal.returns-then-count-eq0
returns-then-count-eq0 c = search (no_word, rules)

pub overflow_cast-first : goal.overflow_cast-first
overflow_cast-first c = omega (arith, c.type_inv.words c.args.at)

pub returns-then-count-eq1 : goal.returns-then-count-eq1
returns-then-count-eq1 c = search (one_word, rules)

pub overflow_cast-second : goal.overflow_cast-second
overflow_cast-second c = omega (arith, c.type_inv.words (c.args.at + 1))

pub overflow_mul-result : goal.overflow_mul-result
overflow_mul-result c = omega (arith, c.type_inv.words c.args.at)

pub overflow_add-result : goal.overflow_add-result
overflow_add-result c = omega (arith, c.type_inv.words c.args.at, c.type_inv.words (c.args.at + 1))

pub returns : goal.returns
returns c = search (two-words, rules)
