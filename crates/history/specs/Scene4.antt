-- A scene of IPv4 (Worked.antt), in a buffer of 104 octets: mail and ping to one network.
use Rattle.std.specs.Prelude.{ℕ, false, List, [], ◌∷◌, ◌++◌, replicate}
use Rattle.rule.specs.Family.{ipv4}
use Rattle.request.specs.Input.{settings_of, policy_of}
use Rattle.history.specs.Worked.{Scene, taken_as_zero, head_for}

-- Mail: destination 192.0.2.0/25, protocol 6, port 25.
abbrev pub mail_value : List ℕ
mail_value = 0x01 ∷ 0x19 ∷ 0xc0 ∷ 0x00 ∷ 0x02 ∷ 0x00 ∷ 0x03 ∷ 0x81 ∷ 0x06 ∷ 0x04 ∷ 0x81 ∷ 0x19 ∷ []

-- The same rule as NLRI: its length in two octets, all bits past the prefix set, and AND set in the first operator of a list.
abbrev pub mail_spelled : List ℕ
mail_spelled = 0xf0 ∷ 12 ∷ 0x01 ∷ 0x19 ∷ 0xc0 ∷ 0x00 ∷ 0x02 ∷ 0x7f ∷ 0x03 ∷ 0xc1 ∷ 0x06 ∷ 0x04 ∷ 0x81 ∷ 0x19 ∷ []

-- Ping: destination 192.0.2.0/24, protocol 1.
abbrev pub ping_value : List ℕ
ping_value = 0x01 ∷ 0x18 ∷ 0xc0 ∷ 0x00 ∷ 0x02 ∷ 0x03 ∷ 0x81 ∷ 0x01 ∷ []

-- The record of mail, which drops.
abbrev pub mail_record : List ℕ
mail_record = head_for 12 1 0 taken_as_zero ++ mail_value

-- The record of ping, with the flags, the DSCP and the notes of its actions.
abbrev pub ping_record : ℕ → ℕ → ℕ → List ℕ
ping_record flags dscp notes = head_for 8 flags dscp notes ++ ping_value

-- A TCP packet from 198.51.100.1, port 1024, to port 25 of a host in 192.0.2.0/24: 24 octets of 40.
abbrev pub mail_to : ℕ → List ℕ
mail_to host =
    0x45 ∷ 0 ∷ 0 ∷ 40 ∷ 0 ∷ 0 ∷ 0 ∷ 0 ∷ 64 ∷ 6 ∷ 0 ∷ 0 ∷ 198 ∷ 51 ∷ 100 ∷ 1 ∷ 192 ∷ 0 ∷ 2 ∷ host ∷ 4 ∷ 0 ∷ 0 ∷ 25 ∷ []

-- The scene: 192.0.2.0/24 is routed to originator 7, over neighbour AS 64500. An attribute has AFI 1 and SAFI 133, a reach no next hop and the
-- reserved octet behind them.
abbrev pub scene_four : Scene
scene_four =
    record {
      family = ipv4;
      size = 104;
      policy = policy_of (0xc0000200 ∷ 24 ∷ 7 ∷ 64500 ∷ []) (settings_of false);
      value = mail_value;
      rule = 12 ∷ mail_value;
      spelled = mail_spelled;
      other_value = ping_value;
      other_rule = 8 ∷ ping_value;
      reached_both = 0 ∷ 1 ∷ 133 ∷ 0 ∷ 0 ∷ (12 ∷ mail_value) ++ (8 ∷ ping_value);
      unreached_other = 0 ∷ 1 ∷ 133 ∷ 8 ∷ ping_value;
      one = mail_record ++ replicate 56 0;
      another = ping_record 16 10 0 ++ replicate 60 0;
      both = mail_record ++ ping_record 16 10 0 ++ replicate 12 0;
      dropped = mail_record ++ ping_record 1 0 taken_as_zero ++ replicate 12 0;
      met = mail_to 5;
      missed = mail_to 200;
    }
