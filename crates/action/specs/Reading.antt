-- How the code reads communities: one by one, each changing the field of its kind in the actions told so far. No promise to a caller
-- names these words; that they come to the actions of Actions is proved.
use Rattle.std.specs.Prelude.{ℕ, ◌/◌, ◌^◌, Bool, cond, ◌||◌, List, [], ◌∷◌, Option, Some, option_map, option_and_then}
use Rattle.rate.specs.declared.Rate.{Rate}
use Rattle.rate.specs.Rate.{note_number}
use Rattle.action.specs.declared.Actions.{Actions}
use Rattle.action.specs.declared.Given.{Given}
use Rattle.action.specs.declared.Kind.{Kind}
use Rattle.action.specs.declared.Kind.TheVariants.{ByteRate, PacketRate, TrafficAction, Redirect, Marking, Other}
use Rattle.action.specs.declared.Limit.{Limit}
use Rattle.action.specs.Given.{given, first_of}
use Rattle.action.specs.Limit.{limit, smaller_of}
use Rattle.action.specs.Actions.{is_byte_rate, is_packet_rate, is_traffic_action, is_marking, is_redirect, rate_in, sets_s, sets_t, marking_in}

-- The kind of a type.
unfoldable pub kind_of : ℕ → Kind
kind_of type =
    cond (is_byte_rate type) ByteRate
    (cond (is_packet_rate type) PacketRate
    (cond (is_traffic_action type) TrafficAction (cond (is_marking type) Marking (cond (is_redirect type) Redirect Other))))

-- The actions with another byte rate.
abbrev pub with_byte_rate : Actions → Limit → Actions
with_byte_rate a l =
    record { bytes = l; packets = a.packets; sample = a.sample; onward = a.onward; marking = a.marking; redirect = a.redirect }

-- The actions with another packet rate.
abbrev pub with_packet_rate : Actions → Limit → Actions
with_packet_rate a l =
    record { bytes = a.bytes; packets = l; sample = a.sample; onward = a.onward; marking = a.marking; redirect = a.redirect }

-- The actions with another S and T.
abbrev pub with_flags : Actions → Bool → Bool → Actions
with_flags a s t =
    record { bytes = a.bytes; packets = a.packets; sample = s; onward = t; marking = a.marking; redirect = a.redirect }

-- The actions with another marking.
abbrev pub with_marking : Actions → Given → Actions
with_marking a g =
    record { bytes = a.bytes; packets = a.packets; sample = a.sample; onward = a.onward; marking = g; redirect = a.redirect }

-- The actions with another redirect.
abbrev pub with_redirect : Actions → Given → Actions
with_redirect a g =
    record { bytes = a.bytes; packets = a.packets; sample = a.sample; onward = a.onward; marking = a.marking; redirect = g }

-- A rate that is a number changes the actions, and one that is not makes them unsound.
unfoldable pub with_rate : (Limit → Actions) → Option Rate → Option Actions
with_rate change = option_map (λ rate. change (limit rate.number (note_number rate.note)))

-- What a community of a kind adds to the actions told so far.
unfoldable pub with_kind : Kind → Actions → ℕ → Option Actions
with_kind ByteRate a c = with_rate (λ l. with_byte_rate a (smaller_of a.bytes l)) (rate_in c)
with_kind PacketRate a c = with_rate (λ l. with_packet_rate a (smaller_of a.packets l)) (rate_in c)
with_kind TrafficAction a c = Some (with_flags a (a.sample || sets_s c) (a.onward || sets_t c))
with_kind Marking a c = Some (with_marking a (first_of a.marking (given (marking_in c))))
with_kind Redirect a c = Some (with_redirect a (first_of a.redirect (given c)))
with_kind Other a c = Some a

-- What a community adds.
unfoldable pub with_community : Actions → ℕ → Option Actions
with_community a c = with_kind (kind_of (c / 2 ^ 48)) a c

-- What several communities add, one after the other, up to one that makes them unsound.
unfoldable pub with_communities : Actions → List ℕ → Option Actions
with_communities a [] = Some a
with_communities a (c ∷ cs) = option_and_then (λ b. with_communities b cs) (with_community a c)
