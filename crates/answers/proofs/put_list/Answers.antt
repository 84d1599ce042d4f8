-- An unsound table is answer 10; a sound one is its count with its records behind.
use native.Mathlib.Omega.{arith}
use Rattle.rule.specs.declared.AddressFamily.TheVariants.{Ipv4}
use Rattle.rule.proofs.FamilyLaws.{chosen-fits}
use Rattle.answers.proofs.PrintLaws.{count-short, printed-short, answer-fits}
use Rattle.answers.proofs.ListLaws.{list-unsound, list-sound, list-short, list-within}
use Rattle.answers.proofs.put_list.Goals as goal

pub sound_table-requires : goal.sound_table-requires
sound_table-requires c = chosen-fits Ipv4 _ c.family_of.ensures

pub put_records-requires : goal.put_records-requires
put_records-requires c =
    (list-short _ _ c.family_of.ensures _ c.sound_table.ensures _ c.in-Ok.is, omega (arith, count-short c.count_records-count.result (omega arith)))

pub returns-in-Err : goal.returns-in-Err
returns-in-Err c =
    rw (list-unsound _ _ c.family_of.ensures _ c.sound_table.ensures _ c.in-Err.is, ← c.number.ensures.0, ← c.place.ensures)
    (let p = c.put_answer.ensures in (p.0, p.1, answer-fits _ _ p.2))

pub returns-in-Ok : goal.returns-in-Ok
returns-in-Ok c =
    printed-short _ _ _ _ _
    (list-sound _ _ c.family_of.ensures _ c.sound_table.ensures _ c.in-Ok.is _ c.count_records-count.ensures.0 _ _ _ c.put_count-start.ensures _ _ c.put_records.ensures)
    (list-within _ _ c.family_of.ensures _ c.sound_table.ensures _ c.in-Ok.is)
