-- What a run reports.
use Rattle.std.specs.Prelude.{ℕ, ◌+◌, List, [], ◌∷◌, ◌++◌, codes, length, map, take}
use Rattle.std.specs.Fmt.{decimal}
use Rattle.psd_base.specs.Event.{Seen}
use Rattle.psd_base.specs.declared.port.TheConstants.{MAX_PORTS}
use Rattle.psd_base.specs.declared.summary.Summary.{Summary}
use Rattle.psd_base.specs.History.{onto}
use Rattle.selector.specs.Panel.{numbers_from}
use Rattle.peripheral_filter.specs.declared.rule.RuleSet.{RuleSet}
use Rattle.kvm_program.specs.Log.{is_leave, is_refusal, noted}
use Rattle.kvm_program.specs.Transcript.{transcript_of}

-- the bytes of each port's transcript
unfoldable pub transcript_sizes : RuleSet → List Seen → List ℕ
transcript_sizes rules events = map (λ port. length (transcript_of rules port events)) (numbers_from 1 MAX_PORTS)

-- the summary of a run over these events
abbrev pub summary_of : RuleSet → ℕ → List Seen → Summary
summary_of rules ports events = record {
  events = length events;
  ports = ports;
  refused = noted rules is_refusal (onto events []);
  left = noted rules is_leave (onto events []);
  bytes = transcript_sizes rules events;
}

unfoldable pub port_text : ℕ → ℕ → List ℕ
port_text port count = codes "port " ++ decimal port ++ codes " " ++ decimal count ++ codes "\n"

-- a line for each port from this one on
abbrev pub counts_text : ℕ → List ℕ → List ℕ
counts_text port [] = []
counts_text port (count ∷ counts) = port_text port count ++ counts_text (port + 1) counts

unfoldable pub report_text : Summary → List ℕ
report_text summary =
    (codes "events " ++ decimal summary.events ++ codes "\n")
    ++ (codes "ports " ++ decimal summary.ports ++ codes "\n")
    ++ (codes "refused " ++ decimal summary.refused ++ codes "\n")
    ++ (codes "left " ++ decimal summary.left ++ codes "\n")
    ++ counts_text 1 (take summary.ports summary.bytes)
