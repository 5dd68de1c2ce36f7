-- What happens in a run, or what one source says, and how it ends.
use Rattle.std.specs.Prelude.{List, [], ◌∷◌, Option}
use Rattle.psd_base.specs.declared.stop.Stop.{Stop}
use Rattle.psd_base.specs.Event.{Seen}

-- The events, oldest first. Without a stop the sources are whole and at their end.
pub record Schedule : Type 0 where
  pub events : List Seen
  pub stop : Option Stop

-- this event, and then what comes
abbrev pub in_front : Seen → Schedule → Schedule
in_front event later = record { events = event ∷ later.events; stop = later.stop }

-- no event, and this end
abbrev pub over : Option Stop → Schedule
over stop = record { events = []; stop = stop }
