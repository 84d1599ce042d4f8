-- A scene of IPv6 (Worked.antt), in a buffer of 120 octets: two rules to one network whose sources differ in the
-- offset, which decides their order, and of which the first also asks for an upper layer; and, beside it, a rule whose destination has an
-- offset, which is infeasible whatever the setting.
use Rattle.std.specs.Prelude.{ℕ, true, false, List, [], ◌∷◌, ◌++◌, replicate}
use Rattle.rule.specs.Family.{ipv6}
use Rattle.request.specs.Input.{Announcement, Policy, settings_of, announcement_of, policy_of}
use Rattle.history.specs.Worked.{Scene, seven, dropping, taken_as_zero, head_for}

-- The words of the route 2001:db8::/32 to originator 7, over neighbour AS 64500.
abbrev pub route_six : List ℕ
route_six = 0x20010db8 ∷ 0 ∷ 0 ∷ 0 ∷ 32 ∷ 7 ∷ 64500 ∷ []

-- From hosts that end in ::1: destination 2001:db8::/33, source ::1/64-128, upper layer 6.
abbrev pub host_value : List ℕ
host_value = 0x01 ∷ 0x21 ∷ 0x00 ∷ 0x20 ∷ 0x01 ∷ 0x0d ∷ 0xb8 ∷ 0x00 ∷ 0x02 ∷ 0x80 ∷ 0x40 ∷ 0 ∷ 0 ∷ 0 ∷ 0 ∷ 0 ∷ 0 ∷ 0 ∷ 0x01 ∷ 0x03 ∷ 0x81 ∷ 0x06 ∷ []

-- The same rule as NLRI: its length in two octets, the seven padding bits of the destination set, and AND in a first operator.
abbrev pub host_spelled : List ℕ
host_spelled =
    0xf0 ∷ 22 ∷ 0x01 ∷ 0x21 ∷ 0x00 ∷ 0x20 ∷ 0x01 ∷ 0x0d ∷ 0xb8 ∷ 0x7f ∷ 0x02 ∷ 0x80 ∷ 0x40 ∷ 0 ∷ 0 ∷ 0 ∷ 0 ∷ 0 ∷ 0 ∷ 0 ∷ 0x01 ∷ 0x03 ∷ 0xc1 ∷ 0x06 ∷ []

-- From hosts whose last octet is 1: the same destination, source ::1/120-128. The lower offset comes first, so that this one comes later.
abbrev pub last_value : List ℕ
last_value = 0x01 ∷ 0x21 ∷ 0x00 ∷ 0x20 ∷ 0x01 ∷ 0x0d ∷ 0xb8 ∷ 0x00 ∷ 0x02 ∷ 0x80 ∷ 0x78 ∷ 0x01 ∷ []

-- The record of the first, which drops.
abbrev pub host_record : List ℕ
host_record = head_for 22 1 0 taken_as_zero ++ host_value

-- The record of the second, with the flags, the DSCP and the notes of its actions.
abbrev pub last_record : ℕ → ℕ → ℕ → List ℕ
last_record flags dscp notes = head_for 12 flags dscp notes ++ last_value

-- A packet from 2001:db8:1::HOST, port 1024, to port 25 of 2001:db8::5, behind a header of options: of its 20 octets of TCP four are lent.
abbrev pub from_host : ℕ → List ℕ
from_host host =
    0x60 ∷ 0 ∷ 0 ∷ 0 ∷ 0 ∷ 28 ∷ 0 ∷ 64
    ∷ 0x20 ∷ 0x01 ∷ 0x0d ∷ 0xb8 ∷ 0 ∷ 1 ∷ 0 ∷ 0 ∷ 0 ∷ 0 ∷ 0 ∷ 0 ∷ 0 ∷ 0 ∷ 0 ∷ host
    ∷ 0x20 ∷ 0x01 ∷ 0x0d ∷ 0xb8 ∷ 0 ∷ 0 ∷ 0 ∷ 0 ∷ 0 ∷ 0 ∷ 0 ∷ 0 ∷ 0 ∷ 0 ∷ 0 ∷ 5
    ∷ 6 ∷ 0 ∷ 1 ∷ 4 ∷ 0 ∷ 0 ∷ 0 ∷ 0 ∷ 4 ∷ 0 ∷ 0 ∷ 25 ∷ []

-- The scene. An attribute has AFI 2 and SAFI 133, a reach no next hop and the reserved octet behind them.
abbrev pub scene_six : Scene
scene_six =
    record {
      family = ipv6;
      size = 120;
      policy = policy_of route_six (settings_of false);
      value = host_value;
      rule = 22 ∷ host_value;
      spelled = host_spelled;
      other_value = last_value;
      other_rule = 12 ∷ last_value;
      reached_both = 0 ∷ 2 ∷ 133 ∷ 0 ∷ 0 ∷ (22 ∷ host_value) ++ (12 ∷ last_value);
      unreached_other = 0 ∷ 2 ∷ 133 ∷ 12 ∷ last_value;
      one = host_record ++ replicate 62 0;
      another = last_record 16 10 0 ++ replicate 72 0;
      both = host_record ++ last_record 16 10 0 ++ replicate 14 0;
      dropped = host_record ++ last_record 1 0 taken_as_zero ++ replicate 14 0;
      met = from_host 1;
      missed = from_host 2;
    }

-- To hosts that end in ::1: destination ::1/64-128.
abbrev pub shifted_value : List ℕ
shifted_value = 0x01 ∷ 0x80 ∷ 0x40 ∷ replicate 7 0 ++ (0x01 ∷ [])

-- The same announced by 7, to be dropped.
abbrev pub shifted : Announcement
shifted = announcement_of (11 ∷ shifted_value) seven dropping

-- The route above, where rules with no destination are allowed.
abbrev pub allowing : Policy
allowing = policy_of route_six (settings_of true)

-- A table of 64 octets with that rule, which no call leaves: it is made.
abbrev pub shifted_table : List ℕ
shifted_table = head_for 11 1 0 taken_as_zero ++ shifted_value ++ replicate 17 0
