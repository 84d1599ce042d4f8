-- The actions of several matching rules taken together (01: "Over several matching rules: smallest rates, S if any, marking and redirect
-- from the first that has one"; 2026-05: the note of the "first matching rule, giving the smallest number"). Merged actions carry no T, which
-- only says whether the walk goes on.
use Rattle.std.specs.Prelude.{false, ◌||◌}
use Rattle.action.specs.declared.Actions.{Actions}
use Rattle.action.specs.Given.{first_of}
use Rattle.action.specs.Limit.{smaller_of}

-- The actions of an earlier and of a later rule.
unfoldable pub merged : Actions → Actions → Actions
merged earlier later =
    record {
      bytes = smaller_of earlier.bytes later.bytes;
      packets = smaller_of earlier.packets later.packets;
      sample = earlier.sample || later.sample;
      onward = false;
      marking = first_of earlier.marking later.marking;
      redirect = first_of earlier.redirect later.redirect;
    }
