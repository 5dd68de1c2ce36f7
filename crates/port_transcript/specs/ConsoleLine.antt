-- The text of a line of the console.
use Rattle.std.specs.Prelude.{ℕ, ◌^◌, ◌<◌, ◌≤◌, List, ◌++◌, All, codes, length}
use Rattle.std.specs.Fmt.{decimal}
use Rattle.hex.specs.Hex.{encode_lower}
use Rattle.psd_base.specs.Setup.{setup_bytes}
use Rattle.psd_base.specs.declared.console.Job.{Job}
use Rattle.psd_base.specs.declared.console.JobKind.{JobKind}
use Rattle.psd_base.specs.declared.console.JobKind.TheVariants as kind
use Rattle.psd_base.specs.declared.console.Order.{Order}
use Rattle.psd_base.specs.declared.console.Order.TheVariants as order
use Rattle.psd_base.specs.declared.packet.TheConstants.{BLOCK_SIZE}
use Rattle.port_transcript.specs.Plug.{plug_text}
use Rattle.port_transcript.specs.PortLine.{IsPacket, IsSetup}
use Rattle.port_transcript.specs.Text.{bytes_text}

-- the transfer of a job
unfoldable pub kind_text : JobKind → List ℕ
kind_text (kind.Control setup bytes) = codes "CTL " ++ encode_lower (setup_bytes setup) ++ codes " " ++ bytes_text bytes
kind_text (kind.In endpoint) = codes "IN " ++ decimal endpoint
kind_text (kind.Out endpoint bytes) = codes "OUT " ++ decimal endpoint ++ codes " " ++ bytes_text bytes

unfoldable pub job_words : Job → List ℕ
job_words job = codes "TOKEN JOB " ++ decimal job.life ++ codes " " ++ decimal job.number ++ codes " " ++ kind_text job.kind

-- the order without its tick
unfoldable pub order_words : Order → List ℕ
order_words (order.On plug life) = plug_text plug ++ codes " ON " ++ decimal life
order_words (order.Off plug life) = plug_text plug ++ codes " OFF " ++ decimal life
order_words (order.Ask plug life number setup) = plug_text plug ++ codes " ASK " ++ decimal life ++ codes " " ++ decimal number ++ codes " " ++ encode_lower (setup_bytes setup)
order_words (order.Job job) = job_words job

-- the tick, the order and a line feed
unfoldable pub order_text : ℕ → Order → List ℕ
order_text tick order = decimal tick ++ codes " " ++ order_words order ++ codes "\n"

-- the fields are in the ranges of their types

pub record IsBlock (bytes : List ℕ) : Type 0 where
  pub size : length bytes ≤ BLOCK_SIZE
  pub bytes_fit : All (λ byte. byte < 2 ^ 8) bytes

abbrev pub IsJobKind : JobKind → Type 0
IsJobKind (kind.Control setup bytes) = IsSetup setup × IsBlock bytes
IsJobKind (kind.In endpoint) = endpoint < 2 ^ 8
IsJobKind (kind.Out endpoint bytes) = (endpoint < 2 ^ 8) × IsPacket bytes

pub record IsJob (job : Job) : Type 0 where
  pub life : job.life < 2 ^ 32
  pub number : job.number < 2 ^ 32
  pub kind : IsJobKind job.kind

abbrev pub IsOrder : Order → Type 0
IsOrder (order.On plug life) = life < 2 ^ 32
IsOrder (order.Off plug life) = life < 2 ^ 32
IsOrder (order.Ask plug life number setup) = (life < 2 ^ 32) × (number < 2 ^ 32) × IsSetup setup
IsOrder (order.Job job) = IsJob job
