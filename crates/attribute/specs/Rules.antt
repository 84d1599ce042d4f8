-- The rules of an attribute, from the end of its head to its own end, one behind the other (RFC 8955 section 4: "one or more 2-tuples of
-- the form <length, NLRI value>").
use Rattle.std.specs.Prelude.{ℕ, ◌+◌, cond, List, leb, length, drop}
use Rattle.octets.specs.Walk.{Step, more, stop, Walk, walk}
use Rattle.rule.specs.declared.Family.{Family}
use Rattle.rule.specs.Value.{between}
use Rattle.rule.specs.Reading.{first_rule}
use Rattle.attribute.specs.Head.{reach_head, unreach_head}
use Rattle.std.specs.Prelude.{Result, Ok, Err, Option, Some, None}
use Rattle.rule.specs.declared.Refusal.{Refusal}
use Rattle.rule.specs.declared.Refusal.TheVariants.{Overlong}
use Rattle.rule.specs.declared.Span.{Span}
use Rattle.attribute.specs.declared.RulePlace.{RulePlace}

-- Where the value of a rule stands: its first place, and the place behind it.
abbrev pub rule_place : ℕ → ℕ → RulePlace
rule_place start end = record { start = start; end = end }

-- What the rule that is read from a place on is in the attribute: where its value starts and ends there, or its refusal.
abbrev pub rule_from : ℕ → Result Span Refusal → Result (Option RulePlace) Refusal
rule_from at (Ok read) = Ok (Some (rule_place (at + read.start) (at + read.start + read.size)))
rule_from at (Err refusal) = Err refusal

-- What stands at a place: nothing more, or the rule that the octets from there on begin with.
unfoldable pub rule_at : Family → List ℕ → ℕ → Result (Option RulePlace) Refusal
rule_at family attribute at = cond (leb (length attribute) at) (Ok None) (rule_from at (first_rule family (drop at attribute)))

-- A step along an attribute: the octets of a rule as they stand there, length field and value.
abbrev pub rule_step : List ℕ → ℕ → Result (Option RulePlace) Refusal → Step ℕ (List ℕ) (Result Unit Refusal)
rule_step attribute at (Ok None) = stop (Ok tt)
rule_step attribute at (Ok (Some found)) = more (between attribute at found.end) found.end
rule_step attribute at (Err refusal) = stop (Err refusal)

-- The rules from a place on, each as its octets; and that all are accepted, or the refusal, 1 to 7, of the first that is not.
unfoldable pub rules_from : Family → List ℕ → ℕ → Walk (List ℕ) (Result Unit Refusal)
rules_from family attribute at = walk (length attribute + 1) (Err Overlong) (λ i. rule_step attribute i (rule_at family attribute i)) at

-- The rules of a reach: the "Network Layer Reachability Information".
abbrev pub reach_rules : Family → List ℕ → Walk (List ℕ) (Result Unit Refusal)
reach_rules family attribute = rules_from family attribute reach_head

-- The rules of an unreach: the "Withdrawn Routes".
abbrev pub unreach_rules : Family → List ℕ → Walk (List ℕ) (Result Unit Refusal)
unreach_rules family attribute = rules_from family attribute unreach_head
