-- Comparing two rules (RFC 8955 section 5.1): both are read, the first before the second, and the values' precedence decides.
use Rattle.std.specs.Prelude.{ℕ, ◌≡◌, List, Result, Ok, Err}
use Rattle.std.specs.declared.cmp.Ordering.{Ordering as Order}
use Rattle.octets.specs.Order.{ordered}
use Rattle.rule.specs.declared.Family.{Family}
use Rattle.rule.specs.declared.Refusal.{Refusal}
use Rattle.rule.specs.declared.Span.{Span}
use Rattle.spelling.specs.Plain.{plain}
use Rattle.rule.specs.Reading.{value_of, one_rule, span}
use Rattle.order.specs.Precedence.{precedence}

-- 01: "comparing the same, first rule before second": a refusal of the first, then one of the second, then the precedence of their values.
abbrev pub compare_read : Family → List ℕ → Result Span Refusal → List ℕ → Result Span Refusal → Result Order Refusal
compare_read family a (Err refusal) b second = Err refusal
compare_read family a (Ok first) b (Err refusal) = Err refusal
compare_read family a (Ok first) b (Ok second) =
    Ok (ordered (precedence family (value_of a first.start first.size) (value_of b second.start second.size)))

-- Comparing two rules.
unfoldable pub compare_rules : Family → List ℕ → List ℕ → Result Order Refusal
compare_rules family a b = compare_read family a (one_rule family a) b (one_rule family b)

-- Octets that are one accepted rule: where its value starts, and its size.
pub record IsRule (family : Family) (octets : List ℕ) : Type 0 where
  pub start : ℕ
  pub size : ℕ
  pub read : one_rule family octets ≡ Ok (span start size)

-- 01: "Two rules are the same rule when their plain spellings are equal."
pub record SameRule (family : Family) (a b : List ℕ) : Type 0 where
  pub first : IsRule family a
  pub second : IsRule family b
  pub equal : plain family (value_of a first.start first.size) ≡ plain family (value_of b second.start second.size)
