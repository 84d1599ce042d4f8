-- Each field read leaves the rest to the fields behind it, and the first that fails makes it another line.
use mathlib.Core.Path.{◌∙◌}
use borrow.Author.Rules.{rules}
use Rattle.text.specs.Hex.{are_octets}
use Rattle.line.specs.Line.{is_rule}
use Rattle.line.specs.Form.{Fielded, Numbered}
use Rattle.line.proofs.FormLaws.{fails, passes, goes_on}
use Rattle.line.proofs.ReadLaws.{no-announce, announce-read}
use Rattle.line.proofs.read_announce.Goals.{In_ok-rule, In_ok-originator, In_ok-communities}
use Rattle.line.proofs.read_announce.Goals as goal

there : (c : In_ok-rule) → let a = c.args in let rule = c.in_ok-rule.rule in Fielded is_rule a.line.now a.word rule.start rule.end
there c = c.in_ok-rule.ensures is_rule (λ text holds k. search rules)

numbered : (c : In_ok-originator) → Numbered c.args.line.now c.in_ok-rule.rule.end c.in_ok-originator.originator c.in_ok-originator.stop
numbered c = c.in_ok-originator.ensures

behind-it : (c : In_ok-communities)
    → let communities = c.in_ok-communities.communities in Fielded are_octets c.args.line.now c.in_ok-originator.stop communities.start communities.end
behind-it c = c.in_ok-communities.ensures are_octets (λ text holds k. search rules)

pub returns-in_err-rule : goal.returns-in_err-rule
returns-in_err-rule c = rw c.from_residual.ensures (no-announce _ _ (fails _ _ _ (c.in_err-rule.ensures is_rule (λ text holds k. search rules))))

pub returns-in_err-originator : goal.returns-in_err-originator
returns-in_err-originator c =
    let k = goal.at.returns-in_err-originator c in
    rw c.from_residual-in_err-originator.ensures (no-announce _ _ (passes _ _ _ _ _ _ (there k.In_ok-rule) ∙ fails _ _ _ c.in_err-originator.ensures))

pub returns-in_err-communities : goal.returns-in_err-communities
returns-in_err-communities c =
    let k = goal.at.returns-in_err-communities c in
    rw c.from_residual-in_err-communities.ensures (no-announce _ _ (passes _ _ _ _ _ _ (there k.In_ok-rule)
    ∙ passes _ _ _ _ _ _ (numbered k.In_ok-originator).there
    ∙ fails _ _ _ (c.in_err-communities.ensures are_octets (λ text holds k. search rules))))

pub returns-then-communities-line : goal.returns-then-communities-line
returns-then-communities-line c =
    let k = goal.at.returns-then-communities-line c in
    no-announce _ _ (passes _ _ _ _ _ _ (there k.In_ok-rule)
    ∙ passes _ _ _ _ _ _ (numbered k.In_ok-originator).there
    ∙ passes _ _ _ _ _ _ (behind-it k.In_ok-communities)
    ∙ goes_on _ _ c.if-communities-line.true)

pub returns : goal.returns
returns c =
    let k = goal.at.returns c in
    announce-read _ _ _ _ (there k.In_ok-rule) _ _ (numbered k.In_ok-originator) _ _ (behind-it k.In_ok-communities) c.if-communities-line.false
