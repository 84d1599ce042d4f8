-- An odd number of signs is none, and of an even number each is asked.
use Rattle.std.proofs.Common.{refl, sym, ◌∙◌, rules}
use Rattle.std.proofs.lemmas.List.Recursion.{and_is}
use Rattle.octets.specs.Test.{every}
use Rattle.text.specs.Hex.{is_hex_digit}
use Rattle.text.proofs.HexLaws.{are-odd, are-even}
use Rattle.text.proofs.are_octets.Goals as goal

pub returns-then-text-eq0 : goal.returns-then-text-eq0
unfolding every
returns-then-text-eq0 c =
    and_is (every is_hex_digit) is_hex_digit refl (λ _ _. refl) c.args.text.now 0 _ (search rules) (search rules) ∙ sym (are-even _ (search rules))

pub returns-else-text-eq0 : goal.returns-else-text-eq0
returns-else-text-eq0 c = search (are-odd, rules)
