-- What a call is given to judge and to announce, by name.
use Rattle.std.specs.Prelude.{ℕ, Bool, List}
use Rattle.route.specs.declared.Origin.{Origin}
use Rattle.route.specs.declared.Settings.{Settings}

-- An announcement, with whatever octets it came: a rule as NLRI, who announces it, and the extended communities of its actions.
pub record Announcement : Type 0 where
  pub rule : List ℕ
  pub origin : Origin
  pub communities : List ℕ

-- What rules are judged by. 01: "Routes are lent as 32-bit words"; "a setting may allow rules with no destination".
pub record Policy : Type 0 where
  pub routes : List ℕ
  pub settings : Settings

-- Settings from the value that a call is lent.
abbrev pub settings_of : Bool → Settings
settings_of allows = record { allows_no_destination = allows }

-- An origin from the number that a call is lent.
abbrev pub origin_of : ℕ → Origin
origin_of originator = record { originator = originator }

-- An announcement from the values that a call is lent one by one.
abbrev pub announcement_of : List ℕ → Origin → List ℕ → Announcement
announcement_of rule origin communities = record { rule = rule; origin = origin; communities = communities }

-- A policy from the values that a call is lent one by one.
abbrev pub policy_of : List ℕ → Settings → Policy
policy_of routes settings = record { routes = routes; settings = settings }
