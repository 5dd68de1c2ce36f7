-- How often the switch goes from one port to another.
use Rattle.std.specs.Prelude.{ℕ, ◌+◌, Some, if◌then◌else◌}
use Rattle.psd_base.specs.Event.{Happening, PortActs, AtFront}
use Rattle.switch_core.specs.declared.visits.Visits.{Visits}
use Rattle.port_model.specs.Chosen.{is_at}

-- the visits after an act at a port
abbrev pub visited : ℕ → Visits → Visits
visited port visits = if is_at port visits.last then visits else (record { last = Some port; count = visits.count + 1 })

-- the visits after an event: one that is no act leaves them
abbrev pub visits_after : Happening → Visits → Visits
visits_after (PortActs port side act) visits = visited port visits
visits_after (AtFront doing) visits = visits
