-- The bridge's definitions at work on small sessions, each computed: each step's answer, and the job that it makes.
use Rattle.std.specs.Prelude.{◌≡◌, true, false, List, [], ◌∷◌, Some, None, refl}
use Rattle.psd_base.specs.Setup.{setup_of}
use Rattle.psd_base.specs.declared.act.Act.TheVariants as act
use Rattle.psd_base.specs.declared.act.Answer.TheVariants as answer
use Rattle.psd_base.specs.declared.console.JobKind.TheVariants as job
use Rattle.auth_router.specs.Entries.{BridgeItem, Acted, Entry}
use Rattle.auth_router.specs.Bridge.{entry_for, takes, history_of, IsDown, IsUp, bridge_answer, bridge_made, bridge_jobs, bridge_takes, after_done}
use Rattle.auth_router.proofs.Sessions.{Ack, Nak, Stall, Silent, Data, Asks, Sends, session, small, large, asks, polls, sends, done, control, device, get_device, write_three, no_bytes, get_eight, set_configuration, set_interface, set_address}

-- GET_DESCRIPTOR: the job is made at the first IN; the answer comes in packets of 8 bytes
descriptor_in_packets_of_eight : session small (asks get_device ∷ polls 0 true ∷ polls 0 true ∷ done 1 0 device ∷ polls 0 false ∷ polls 0 true ∷ polls 0 true ∷ polls 0 true ∷ sends 0 true [] ∷ sends 0 true [] ∷ polls 0 true ∷ sends 0 true [] ∷ [])
    ≡ Ack ∷ Asks (control get_device []) ∷ Nak ∷ Silent ∷ Data true (18 ∷ 1 ∷ 0 ∷ 2 ∷ 0 ∷ 0 ∷ 0 ∷ 8 ∷ []) ∷ Data true (18 ∷ 1 ∷ 0 ∷ 2 ∷ 0 ∷ 0 ∷ 0 ∷ 8 ∷ []) ∷ Data false (52 ∷ 18 ∷ 3 ∷ 0 ∷ 0 ∷ 1 ∷ 0 ∷ 0 ∷ []) ∷ Data true (0 ∷ 1 ∷ []) ∷ Ack ∷ Ack ∷ Stall ∷ Stall ∷ []
descriptor_in_packets_of_eight = refl

-- the same where packets have 64 bytes
descriptor_in_one_packet : session large (asks get_device ∷ polls 0 true ∷ done 1 0 device ∷ polls 0 true ∷ polls 0 true ∷ polls 0 true ∷ sends 0 true [] ∷ asks get_device ∷ [])
    ≡ Ack ∷ Asks (control get_device []) ∷ Silent ∷ Data true device ∷ Stall ∷ Stall ∷ Stall ∷ Ack ∷ []
descriptor_in_one_packet = refl

-- a word on another job changes nothing, and there is no second job
another_number : session small (asks get_device ∷ polls 0 true ∷ done 2 0 device ∷ polls 0 true ∷ polls 0 true ∷ done 0 0 device ∷ polls 0 true ∷ [])
    ≡ Ack ∷ Asks (control get_device []) ∷ Silent ∷ Nak ∷ Nak ∷ Silent ∷ Nak ∷ []
another_number = refl

-- the data are cut to what was asked for, with a packet of no bytes at the end only where there is less
data_are_cut : session small (asks get_eight ∷ polls 0 true ∷ done 1 0 device ∷ polls 0 true ∷ polls 0 true ∷ [])
    ≡ Ack ∷ Asks (control get_eight []) ∷ Silent ∷ Data true (18 ∷ 1 ∷ 0 ∷ 2 ∷ 0 ∷ 0 ∷ 0 ∷ 8 ∷ []) ∷ Stall ∷ []
data_are_cut = refl

-- eight bytes of eighteen that were asked for: a packet of no bytes ends them
an_empty_packet_ends : session small (asks get_device ∷ polls 0 true ∷ done 1 0 (1 ∷ 2 ∷ 3 ∷ 4 ∷ 5 ∷ 6 ∷ 7 ∷ 8 ∷ []) ∷ polls 0 true ∷ polls 0 true ∷ sends 0 true [] ∷ [])
    ≡ Ack ∷ Asks (control get_device []) ∷ Silent ∷ Data true (1 ∷ 2 ∷ 3 ∷ 4 ∷ 5 ∷ 6 ∷ 7 ∷ 8 ∷ []) ∷ Data false [] ∷ Ack ∷ []
an_empty_packet_ends = refl

-- a control job with status 1 is a request error
failed_control_job_1 : session small (asks get_device ∷ polls 0 true ∷ done 1 1 device ∷ polls 0 true ∷ sends 0 true [] ∷ asks get_device ∷ polls 0 true ∷ [])
    ≡ Ack ∷ Asks (control get_device []) ∷ Silent ∷ Stall ∷ Stall ∷ Ack ∷ Asks (control get_device []) ∷ []
failed_control_job_1 = refl

-- a control job with status 2 is a request error
failed_control_job_2 : session small (asks get_device ∷ polls 0 true ∷ done 1 2 device ∷ polls 0 true ∷ sends 0 true [] ∷ asks get_device ∷ polls 0 true ∷ [])
    ≡ Ack ∷ Asks (control get_device []) ∷ Silent ∷ Stall ∷ Stall ∷ Ack ∷ Asks (control get_device []) ∷ []
failed_control_job_2 = refl

-- a control job with status 3 is a request error
failed_control_job_3 : session small (asks get_device ∷ polls 0 true ∷ done 1 3 device ∷ polls 0 true ∷ sends 0 true [] ∷ asks get_device ∷ polls 0 true ∷ [])
    ≡ Ack ∷ Asks (control get_device []) ∷ Silent ∷ Stall ∷ Stall ∷ Ack ∷ Asks (control get_device []) ∷ []
failed_control_job_3 = refl

-- what doesn't fit is refused before the answer too, and the job holds back the next one until it is done
misfits_before_the_answer : session small (asks get_device ∷ polls 0 true ∷ sends 0 false [] ∷ polls 0 true ∷ done 1 0 device ∷ polls 0 true ∷ sends 0 true [] ∷ asks get_device ∷ polls 0 true ∷ [])
    ≡ Ack ∷ Asks (control get_device []) ∷ Stall ∷ Stall ∷ Silent ∷ Stall ∷ Stall ∷ Ack ∷ Asks (control get_device []) ∷ []
misfits_before_the_answer = refl

-- an early status OUT ends the transfer and orphans its job, which holds back others until it is done
early_status : session small (asks get_device ∷ polls 0 true ∷ sends 0 true [] ∷ sends 0 true [] ∷ done 1 1 [] ∷ sends 0 true [] ∷ polls 0 true ∷ asks get_device ∷ polls 0 true ∷ [])
    ≡ Ack ∷ Asks (control get_device []) ∷ Ack ∷ Ack ∷ Silent ∷ Ack ∷ Stall ∷ Ack ∷ Asks (control get_device []) ∷ []
early_status = refl

-- an early status OUT before the job is made: it is never made
early_status_without_a_job : session small (asks get_device ∷ sends 0 true [] ∷ polls 0 true ∷ sends 0 true [] ∷ [])
    ≡ Ack ∷ Ack ∷ Stall ∷ Stall ∷ []
early_status_without_a_job = refl

-- the job of an earlier request isn't the next one's, and holds it back
orphaned_by_a_setup : session small (asks get_device ∷ polls 0 true ∷ asks get_device ∷ polls 0 true ∷ done 1 0 device ∷ polls 0 true ∷ polls 0 true ∷ done 1 0 device ∷ polls 0 true ∷ done 2 0 (7 ∷ []) ∷ polls 0 true ∷ [])
    ≡ Ack ∷ Asks (control get_device []) ∷ Ack ∷ Nak ∷ Silent ∷ Asks (control get_device []) ∷ Nak ∷ Silent ∷ Nak ∷ Silent ∷ Data true (7 ∷ []) ∷ []
orphaned_by_a_setup = refl

-- a bus reset orphans the job, and numbers go on
orphaned_by_a_reset : session small (asks get_device ∷ polls 0 true ∷ Acted act.Reset ∷ polls 0 true ∷ asks get_device ∷ polls 0 true ∷ done 1 0 device ∷ polls 0 true ∷ done 1 0 device ∷ polls 0 true ∷ done 2 0 (7 ∷ []) ∷ polls 0 true ∷ [])
    ≡ Ack ∷ Asks (control get_device []) ∷ Silent ∷ Stall ∷ Ack ∷ Nak ∷ Silent ∷ Asks (control get_device []) ∷ Silent ∷ Nak ∷ Silent ∷ Data true (7 ∷ []) ∷ []
orphaned_by_a_reset = refl

-- a request with data from the computer: the job is made at the status IN, with the bytes
writing : session small (asks write_three ∷ sends 0 false (9 ∷ []) ∷ sends 0 true (1 ∷ 2 ∷ []) ∷ sends 0 true (9 ∷ []) ∷ sends 0 false (3 ∷ []) ∷ polls 0 true ∷ sends 0 false (3 ∷ []) ∷ polls 0 true ∷ done 1 0 [] ∷ polls 0 false ∷ polls 0 true ∷ polls 0 true ∷ [])
    ≡ Ack ∷ Ack ∷ Ack ∷ Ack ∷ Ack ∷ Asks (control write_three (1 ∷ 2 ∷ 3 ∷ [])) ∷ Ack ∷ Nak ∷ Silent ∷ Data true [] ∷ Data true [] ∷ Stall ∷ []
writing = refl

-- the token refuses it
writing_fails : session small (asks write_three ∷ sends 0 true (1 ∷ 2 ∷ 3 ∷ []) ∷ polls 0 true ∷ done 1 1 [] ∷ polls 0 true ∷ [])
    ≡ Ack ∷ Ack ∷ Asks (control write_three (1 ∷ 2 ∷ 3 ∷ [])) ∷ Silent ∷ Stall ∷ []
writing_fails = refl

-- a status IN before all bytes are in, and too many bytes
writing_too_little : session small (asks write_three ∷ sends 0 true (1 ∷ 2 ∷ []) ∷ polls 0 true ∷ asks write_three ∷ sends 0 true (1 ∷ 2 ∷ 3 ∷ 4 ∷ []) ∷ polls 0 true ∷ [])
    ≡ Ack ∷ Ack ∷ Stall ∷ Ack ∷ Stall ∷ Stall ∷ []
writing_too_little = refl

-- a request without data makes its job at the status IN
no_data : session small (asks no_bytes ∷ polls 0 true ∷ done 1 0 [] ∷ polls 0 true ∷ polls 0 true ∷ asks no_bytes ∷ sends 0 true [] ∷ polls 0 true ∷ [])
    ≡ Ack ∷ Asks (control no_bytes []) ∷ Silent ∷ Data true [] ∷ Stall ∷ Ack ∷ Stall ∷ Stall ∷ []
no_data = refl

-- a request to the computer without data goes to its status stage
reading_nothing : session small (asks (128 ∷ 6 ∷ 0 ∷ 1 ∷ 0 ∷ 0 ∷ 0 ∷ 0 ∷ []) ∷ polls 0 true ∷ done 1 0 device ∷ polls 0 true ∷ [])
    ≡ Ack ∷ Asks (control (128 ∷ 6 ∷ 0 ∷ 1 ∷ 0 ∷ 0 ∷ 0 ∷ 0 ∷ []) []) ∷ Silent ∷ Data true [] ∷ []
reading_nothing = refl

-- 1,024 bytes may be asked for, one more may not
the_longest_request : session large (asks (128 ∷ 6 ∷ 0 ∷ 1 ∷ 0 ∷ 0 ∷ 0 ∷ 4 ∷ []) ∷ polls 0 true ∷ asks (128 ∷ 6 ∷ 0 ∷ 1 ∷ 0 ∷ 0 ∷ 1 ∷ 4 ∷ []) ∷ polls 0 true ∷ sends 0 true [] ∷ [])
    ≡ Ack ∷ Asks (control (128 ∷ 6 ∷ 0 ∷ 1 ∷ 0 ∷ 0 ∷ 0 ∷ 4 ∷ []) []) ∷ Ack ∷ Stall ∷ Stall ∷ []
the_longest_request = refl

-- SET_ADDRESS is the bridge's own, at its acknowledged status
address : session small (asks set_address ∷ polls 0 false ∷ Acted (act.In 5 0 true) ∷ polls 0 true ∷ asks get_device ∷ Acted (act.Setup 5 (setup_of get_device)) ∷ Acted (act.In 5 0 true) ∷ Acted (act.Out 0 0 true []) ∷ Acted act.Reset ∷ asks get_device ∷ [])
    ≡ Ack ∷ Data true [] ∷ Silent ∷ Data true [] ∷ Silent ∷ Ack ∷ Asks (control get_device []) ∷ Silent ∷ Silent ∷ Ack ∷ []
address = refl

-- SET_ADDRESS above 127, with an index or a length
wrong_addresses : session small (asks (0 ∷ 5 ∷ 128 ∷ 0 ∷ 0 ∷ 0 ∷ 0 ∷ 0 ∷ []) ∷ polls 0 true ∷ asks (0 ∷ 5 ∷ 5 ∷ 0 ∷ 1 ∷ 0 ∷ 0 ∷ 0 ∷ []) ∷ polls 0 true ∷ asks (0 ∷ 5 ∷ 5 ∷ 0 ∷ 0 ∷ 0 ∷ 1 ∷ 0 ∷ []) ∷ polls 0 true ∷ [])
    ≡ Ack ∷ Stall ∷ Ack ∷ Stall ∷ Ack ∷ Stall ∷ []
wrong_addresses = refl

-- SET_CONFIGURATION of another value, SET_INTERFACE of another than 0
wrong_configuration : session small (asks (0 ∷ 9 ∷ 2 ∷ 0 ∷ 0 ∷ 0 ∷ 0 ∷ 0 ∷ []) ∷ polls 0 true ∷ asks (1 ∷ 11 ∷ 1 ∷ 0 ∷ 0 ∷ 0 ∷ 0 ∷ 0 ∷ []) ∷ polls 0 true ∷ asks (0 ∷ 9 ∷ 0 ∷ 0 ∷ 0 ∷ 0 ∷ 0 ∷ 0 ∷ []) ∷ polls 0 true ∷ [])
    ≡ Ack ∷ Stall ∷ Ack ∷ Stall ∷ Ack ∷ Asks (control (0 ∷ 9 ∷ 0 ∷ 0 ∷ 0 ∷ 0 ∷ 0 ∷ 0 ∷ []) []) ∷ []
wrong_configuration = refl

-- SET_CONFIGURATION brings up the endpoints; SET_ADDRESS is refused then
configured : session small (polls 1 true ∷ sends 2 false (1 ∷ []) ∷ asks set_configuration ∷ polls 0 true ∷ done 1 0 [] ∷ polls 0 true ∷ polls 1 true ∷ polls 2 true ∷ polls 17 true ∷ sends 1 false (1 ∷ []) ∷ asks set_address ∷ polls 0 true ∷ [])
    ≡ Silent ∷ Silent ∷ Ack ∷ Asks (control set_configuration []) ∷ Silent ∷ Data true [] ∷ Asks (job.In 1) ∷ Silent ∷ Silent ∷ Silent ∷ Ack ∷ Stall ∷ []
configured = refl

-- not before its status is acknowledged
unacknowledged_configuration : session small (asks set_configuration ∷ polls 0 true ∷ done 1 0 [] ∷ polls 0 false ∷ polls 1 true ∷ [])
    ≡ Ack ∷ Asks (control set_configuration []) ∷ Silent ∷ Data true [] ∷ Silent ∷ []
unacknowledged_configuration = refl

-- an IN endpoint: one job, the packet until it is acknowledged, and then the other toggle
in_endpoint : session small (asks set_configuration ∷ polls 0 true ∷ done 1 0 [] ∷ polls 0 true ∷ polls 1 true ∷ polls 1 true ∷ done 2 0 (1 ∷ 2 ∷ []) ∷ polls 1 false ∷ polls 1 true ∷ polls 1 true ∷ done 3 0 (3 ∷ []) ∷ polls 1 true ∷ polls 1 true ∷ done 4 0 [] ∷ polls 1 true ∷ [])
    ≡ Ack ∷ Asks (control set_configuration []) ∷ Silent ∷ Data true [] ∷ Asks (job.In 1) ∷ Nak ∷ Silent ∷ Data false (1 ∷ 2 ∷ []) ∷ Data false (1 ∷ 2 ∷ []) ∷ Asks (job.In 1) ∷ Silent ∷ Data true (3 ∷ []) ∷ Asks (job.In 1) ∷ Silent ∷ Data false [] ∷ []
in_endpoint = refl

-- status 3 leaves the endpoint as it was
no_packet : session small (asks set_configuration ∷ polls 0 true ∷ done 1 0 [] ∷ polls 0 true ∷ polls 1 true ∷ done 2 3 (1 ∷ []) ∷ polls 1 true ∷ done 3 0 (1 ∷ []) ∷ polls 1 true ∷ [])
    ≡ Ack ∷ Asks (control set_configuration []) ∷ Silent ∷ Data true [] ∷ Asks (job.In 1) ∷ Silent ∷ Asks (job.In 1) ∷ Silent ∷ Data false (1 ∷ []) ∷ []
no_packet = refl

-- status 1 halts it
halted_in_1 : session small (asks set_configuration ∷ polls 0 true ∷ done 1 0 [] ∷ polls 0 true ∷ polls 1 true ∷ done 2 1 [] ∷ polls 1 true ∷ polls 1 true ∷ [])
    ≡ Ack ∷ Asks (control set_configuration []) ∷ Silent ∷ Data true [] ∷ Asks (job.In 1) ∷ Silent ∷ Stall ∷ Stall ∷ []
halted_in_1 = refl

-- status 2 halts it
halted_in_2 : session small (asks set_configuration ∷ polls 0 true ∷ done 1 0 [] ∷ polls 0 true ∷ polls 1 true ∷ done 2 2 [] ∷ polls 1 true ∷ polls 1 true ∷ [])
    ≡ Ack ∷ Asks (control set_configuration []) ∷ Silent ∷ Data true [] ∷ Asks (job.In 1) ∷ Silent ∷ Stall ∷ Stall ∷ []
halted_in_2 = refl

-- 65 bytes are no packet
a_packet_too_long : session large (asks set_configuration ∷ polls 0 true ∷ done 1 0 [] ∷ polls 0 true ∷ polls 1 true ∷ done 2 0 (0 ∷ 1 ∷ 2 ∷ 3 ∷ 4 ∷ 5 ∷ 6 ∷ 7 ∷ 8 ∷ 9 ∷ 10 ∷ 11 ∷ 12 ∷ 13 ∷ 14 ∷ 15 ∷ 16 ∷ 17 ∷ 18 ∷ 19 ∷ 20 ∷ 21 ∷ 22 ∷ 23 ∷ 24 ∷ 25 ∷ 26 ∷ 27 ∷ 28 ∷ 29 ∷ 30 ∷ 31 ∷ 32 ∷ 33 ∷ 34 ∷ 35 ∷ 36 ∷ 37 ∷ 38 ∷ 39 ∷ 40 ∷ 41 ∷ 42 ∷ 43 ∷ 44 ∷ 45 ∷ 46 ∷ 47 ∷ 48 ∷ 49 ∷ 50 ∷ 51 ∷ 52 ∷ 53 ∷ 54 ∷ 55 ∷ 56 ∷ 57 ∷ 58 ∷ 59 ∷ 60 ∷ 61 ∷ 62 ∷ 63 ∷ 64 ∷ []) ∷ polls 1 true ∷ [])
    ≡ Ack ∷ Asks (control set_configuration []) ∷ Silent ∷ Data true [] ∷ Asks (job.In 1) ∷ Silent ∷ Stall ∷ []
a_packet_too_long = refl

-- 64 bytes are one
the_longest_packet : session large (asks set_configuration ∷ polls 0 true ∷ done 1 0 [] ∷ polls 0 true ∷ polls 1 true ∷ done 2 0 (0 ∷ 1 ∷ 2 ∷ 3 ∷ 4 ∷ 5 ∷ 6 ∷ 7 ∷ 8 ∷ 9 ∷ 10 ∷ 11 ∷ 12 ∷ 13 ∷ 14 ∷ 15 ∷ 16 ∷ 17 ∷ 18 ∷ 19 ∷ 20 ∷ 21 ∷ 22 ∷ 23 ∷ 24 ∷ 25 ∷ 26 ∷ 27 ∷ 28 ∷ 29 ∷ 30 ∷ 31 ∷ 32 ∷ 33 ∷ 34 ∷ 35 ∷ 36 ∷ 37 ∷ 38 ∷ 39 ∷ 40 ∷ 41 ∷ 42 ∷ 43 ∷ 44 ∷ 45 ∷ 46 ∷ 47 ∷ 48 ∷ 49 ∷ 50 ∷ 51 ∷ 52 ∷ 53 ∷ 54 ∷ 55 ∷ 56 ∷ 57 ∷ 58 ∷ 59 ∷ 60 ∷ 61 ∷ 62 ∷ 63 ∷ []) ∷ polls 1 true ∷ [])
    ≡ Ack ∷ Asks (control set_configuration []) ∷ Silent ∷ Data true [] ∷ Asks (job.In 1) ∷ Silent ∷ Data false (0 ∷ 1 ∷ 2 ∷ 3 ∷ 4 ∷ 5 ∷ 6 ∷ 7 ∷ 8 ∷ 9 ∷ 10 ∷ 11 ∷ 12 ∷ 13 ∷ 14 ∷ 15 ∷ 16 ∷ 17 ∷ 18 ∷ 19 ∷ 20 ∷ 21 ∷ 22 ∷ 23 ∷ 24 ∷ 25 ∷ 26 ∷ 27 ∷ 28 ∷ 29 ∷ 30 ∷ 31 ∷ 32 ∷ 33 ∷ 34 ∷ 35 ∷ 36 ∷ 37 ∷ 38 ∷ 39 ∷ 40 ∷ 41 ∷ 42 ∷ 43 ∷ 44 ∷ 45 ∷ 46 ∷ 47 ∷ 48 ∷ 49 ∷ 50 ∷ 51 ∷ 52 ∷ 53 ∷ 54 ∷ 55 ∷ 56 ∷ 57 ∷ 58 ∷ 59 ∷ 60 ∷ 61 ∷ 62 ∷ 63 ∷ []) ∷ []
the_longest_packet = refl

-- an OUT endpoint: a job for each packet of the expected toggle
out_endpoint : session small (asks set_configuration ∷ polls 0 true ∷ done 1 0 [] ∷ polls 0 true ∷ sends 2 true (9 ∷ []) ∷ sends 2 false (1 ∷ []) ∷ sends 2 false (1 ∷ []) ∷ sends 2 true (2 ∷ []) ∷ polls 1 true ∷ done 2 0 [] ∷ sends 2 true (2 ∷ []) ∷ done 3 0 [] ∷ sends 2 false (3 ∷ []) ∷ [])
    ≡ Ack ∷ Asks (control set_configuration []) ∷ Silent ∷ Data true [] ∷ Ack ∷ Sends (job.Out 2 (1 ∷ [])) ∷ Ack ∷ Nak ∷ Nak ∷ Silent ∷ Sends (job.Out 2 (2 ∷ [])) ∷ Silent ∷ Sends (job.Out 2 (3 ∷ [])) ∷ []
out_endpoint = refl

-- status 1 halts it
halted_out_1 : session small (asks set_configuration ∷ polls 0 true ∷ done 1 0 [] ∷ polls 0 true ∷ sends 2 false (1 ∷ []) ∷ done 2 1 [] ∷ sends 2 true (2 ∷ []) ∷ sends 2 false (2 ∷ []) ∷ [])
    ≡ Ack ∷ Asks (control set_configuration []) ∷ Silent ∷ Data true [] ∷ Sends (job.Out 2 (1 ∷ [])) ∷ Silent ∷ Stall ∷ Stall ∷ []
halted_out_1 = refl

-- status 2 halts it
halted_out_2 : session small (asks set_configuration ∷ polls 0 true ∷ done 1 0 [] ∷ polls 0 true ∷ sends 2 false (1 ∷ []) ∷ done 2 2 [] ∷ sends 2 true (2 ∷ []) ∷ sends 2 false (2 ∷ []) ∷ [])
    ≡ Ack ∷ Asks (control set_configuration []) ∷ Silent ∷ Data true [] ∷ Sends (job.Out 2 (1 ∷ [])) ∷ Silent ∷ Stall ∷ Stall ∷ []
halted_out_2 = refl

-- status 3 halts it
halted_out_3 : session small (asks set_configuration ∷ polls 0 true ∷ done 1 0 [] ∷ polls 0 true ∷ sends 2 false (1 ∷ []) ∷ done 2 3 [] ∷ sends 2 true (2 ∷ []) ∷ sends 2 false (2 ∷ []) ∷ [])
    ≡ Ack ∷ Asks (control set_configuration []) ∷ Silent ∷ Data true [] ∷ Sends (job.Out 2 (1 ∷ [])) ∷ Silent ∷ Stall ∷ Stall ∷ []
halted_out_3 = refl

-- CLEAR_FEATURE ends the halt of its endpoint, with DATA0
halt_is_ended : session small (asks set_configuration ∷ polls 0 true ∷ done 1 0 [] ∷ polls 0 true ∷ polls 1 true ∷ polls 1 true ∷ done 2 0 (1 ∷ 2 ∷ []) ∷ polls 1 false ∷ polls 1 true ∷ polls 1 true ∷ done 3 1 [] ∷ polls 1 true ∷ asks (2 ∷ 1 ∷ 0 ∷ 0 ∷ 2 ∷ 0 ∷ 0 ∷ 0 ∷ []) ∷ polls 0 true ∷ done 4 0 [] ∷ polls 0 true ∷ polls 1 true ∷ asks (2 ∷ 1 ∷ 0 ∷ 0 ∷ 129 ∷ 0 ∷ 0 ∷ 0 ∷ []) ∷ polls 0 true ∷ done 5 0 [] ∷ polls 0 true ∷ polls 1 true ∷ done 6 0 (3 ∷ []) ∷ polls 1 true ∷ [])
    ≡ Ack ∷ Asks (control set_configuration []) ∷ Silent ∷ Data true [] ∷ Asks (job.In 1) ∷ Nak ∷ Silent ∷ Data false (1 ∷ 2 ∷ []) ∷ Data false (1 ∷ 2 ∷ []) ∷ Asks (job.In 1) ∷ Silent ∷ Stall ∷ Ack ∷ Asks (control (2 ∷ 1 ∷ 0 ∷ 0 ∷ 2 ∷ 0 ∷ 0 ∷ 0 ∷ []) []) ∷ Silent ∷ Data true [] ∷ Stall ∷ Ack ∷ Asks (control (2 ∷ 1 ∷ 0 ∷ 0 ∷ 129 ∷ 0 ∷ 0 ∷ 0 ∷ []) []) ∷ Silent ∷ Data true [] ∷ Asks (job.In 1) ∷ Silent ∷ Data false (3 ∷ []) ∷ []
halt_is_ended = refl

-- and of an OUT endpoint
out_halt_is_ended : session small (asks set_configuration ∷ polls 0 true ∷ done 1 0 [] ∷ polls 0 true ∷ sends 2 false (1 ∷ []) ∷ done 2 1 [] ∷ sends 2 true (2 ∷ []) ∷ asks (2 ∷ 1 ∷ 0 ∷ 0 ∷ 2 ∷ 0 ∷ 0 ∷ 0 ∷ []) ∷ polls 0 true ∷ done 3 0 [] ∷ polls 0 true ∷ sends 2 false (2 ∷ []) ∷ [])
    ≡ Ack ∷ Asks (control set_configuration []) ∷ Silent ∷ Data true [] ∷ Sends (job.Out 2 (1 ∷ [])) ∷ Silent ∷ Stall ∷ Ack ∷ Asks (control (2 ∷ 1 ∷ 0 ∷ 0 ∷ 2 ∷ 0 ∷ 0 ∷ 0 ∷ []) []) ∷ Silent ∷ Data true [] ∷ Sends (job.Out 2 (2 ∷ [])) ∷ []
out_halt_is_ended = refl

-- a feature of another value, and an index with bit 4, end no halt
other_features : session small (asks set_configuration ∷ polls 0 true ∷ done 1 0 [] ∷ polls 0 true ∷ polls 1 true ∷ done 2 1 [] ∷ asks (2 ∷ 1 ∷ 1 ∷ 0 ∷ 129 ∷ 0 ∷ 0 ∷ 0 ∷ []) ∷ polls 0 true ∷ done 3 0 [] ∷ polls 0 true ∷ asks (2 ∷ 1 ∷ 0 ∷ 0 ∷ 145 ∷ 0 ∷ 0 ∷ 0 ∷ []) ∷ polls 0 true ∷ done 4 0 [] ∷ polls 0 true ∷ polls 1 true ∷ asks (2 ∷ 1 ∷ 0 ∷ 0 ∷ 129 ∷ 7 ∷ 0 ∷ 0 ∷ []) ∷ polls 0 true ∷ done 5 0 [] ∷ polls 0 true ∷ polls 1 true ∷ [])
    ≡ Ack ∷ Asks (control set_configuration []) ∷ Silent ∷ Data true [] ∷ Asks (job.In 1) ∷ Silent ∷ Ack ∷ Asks (control (2 ∷ 1 ∷ 1 ∷ 0 ∷ 129 ∷ 0 ∷ 0 ∷ 0 ∷ []) []) ∷ Silent ∷ Data true [] ∷ Ack ∷ Asks (control (2 ∷ 1 ∷ 0 ∷ 0 ∷ 145 ∷ 0 ∷ 0 ∷ 0 ∷ []) []) ∷ Silent ∷ Data true [] ∷ Stall ∷ Ack ∷ Asks (control (2 ∷ 1 ∷ 0 ∷ 0 ∷ 129 ∷ 7 ∷ 0 ∷ 0 ∷ []) []) ∷ Silent ∷ Data true [] ∷ Asks (job.In 1) ∷ []
other_features = refl

-- SET_INTERFACE ends the halts and toggles of all, and keeps the packet that is held
interface_begins_anew : session small (asks set_configuration ∷ polls 0 true ∷ done 1 0 [] ∷ polls 0 true ∷ polls 1 true ∷ polls 1 true ∷ done 2 0 (1 ∷ 2 ∷ []) ∷ polls 1 false ∷ polls 1 true ∷ polls 1 true ∷ done 3 0 (3 ∷ []) ∷ sends 2 false (1 ∷ []) ∷ done 4 1 [] ∷ sends 2 true (2 ∷ []) ∷ asks set_interface ∷ polls 0 true ∷ done 5 0 [] ∷ polls 0 true ∷ polls 1 true ∷ sends 2 false (2 ∷ []) ∷ [])
    ≡ Ack ∷ Asks (control set_configuration []) ∷ Silent ∷ Data true [] ∷ Asks (job.In 1) ∷ Nak ∷ Silent ∷ Data false (1 ∷ 2 ∷ []) ∷ Data false (1 ∷ 2 ∷ []) ∷ Asks (job.In 1) ∷ Silent ∷ Sends (job.Out 2 (1 ∷ [])) ∷ Silent ∷ Stall ∷ Ack ∷ Asks (control set_interface []) ∷ Silent ∷ Data true [] ∷ Data false (3 ∷ []) ∷ Sends (job.Out 2 (2 ∷ [])) ∷ []
interface_begins_anew = refl

-- SET_CONFIGURATION drops the packet that is held, too
configuration_begins_anew : session small (asks set_configuration ∷ polls 0 true ∷ done 1 0 [] ∷ polls 0 true ∷ polls 1 true ∷ polls 1 true ∷ done 2 0 (1 ∷ 2 ∷ []) ∷ polls 1 false ∷ polls 1 true ∷ polls 1 true ∷ done 3 0 (3 ∷ []) ∷ asks set_configuration ∷ polls 0 true ∷ done 4 0 [] ∷ polls 0 true ∷ polls 1 true ∷ done 5 0 (4 ∷ []) ∷ polls 1 true ∷ [])
    ≡ Ack ∷ Asks (control set_configuration []) ∷ Silent ∷ Data true [] ∷ Asks (job.In 1) ∷ Nak ∷ Silent ∷ Data false (1 ∷ 2 ∷ []) ∷ Data false (1 ∷ 2 ∷ []) ∷ Asks (job.In 1) ∷ Silent ∷ Ack ∷ Asks (control set_configuration []) ∷ Silent ∷ Data true [] ∷ Asks (job.In 1) ∷ Silent ∷ Data false (4 ∷ []) ∷ []
configuration_begins_anew = refl

-- SET_CONFIGURATION orphans an endpoint's job that was made after its own was done
configuration_orphans : session small (asks set_configuration ∷ polls 0 true ∷ done 1 0 [] ∷ polls 0 true ∷ asks set_configuration ∷ polls 0 true ∷ done 2 0 [] ∷ polls 1 true ∷ polls 0 true ∷ polls 1 true ∷ done 3 0 (1 ∷ []) ∷ polls 1 true ∷ done 4 1 [] ∷ polls 1 true ∷ [])
    ≡ Ack ∷ Asks (control set_configuration []) ∷ Silent ∷ Data true [] ∷ Ack ∷ Asks (control set_configuration []) ∷ Silent ∷ Asks (job.In 1) ∷ Data true [] ∷ Nak ∷ Silent ∷ Asks (job.In 1) ∷ Silent ∷ Stall ∷ []
configuration_orphans = refl

-- a setup orphans no job of another endpoint
a_setup_keeps_an_endpoints_job : session small (asks set_configuration ∷ polls 0 true ∷ done 1 0 [] ∷ polls 0 true ∷ polls 1 true ∷ asks get_device ∷ polls 0 true ∷ done 2 0 (1 ∷ []) ∷ polls 0 true ∷ polls 1 true ∷ [])
    ≡ Ack ∷ Asks (control set_configuration []) ∷ Silent ∷ Data true [] ∷ Asks (job.In 1) ∷ Ack ∷ Nak ∷ Silent ∷ Asks (control get_device []) ∷ Data false (1 ∷ []) ∷ []
a_setup_keeps_an_endpoints_job = refl

-- a bus reset forgets configuration, toggles and packets
a_reset_forgets : session small (asks set_configuration ∷ polls 0 true ∷ done 1 0 [] ∷ polls 0 true ∷ polls 1 true ∷ polls 1 true ∷ done 2 0 (1 ∷ 2 ∷ []) ∷ polls 1 false ∷ polls 1 true ∷ polls 1 true ∷ done 3 0 (3 ∷ []) ∷ Acted act.Reset ∷ polls 1 true ∷ asks set_configuration ∷ polls 0 true ∷ done 4 0 [] ∷ polls 0 true ∷ polls 1 true ∷ done 5 0 (4 ∷ []) ∷ polls 1 true ∷ [])
    ≡ Ack ∷ Asks (control set_configuration []) ∷ Silent ∷ Data true [] ∷ Asks (job.In 1) ∷ Nak ∷ Silent ∷ Data false (1 ∷ 2 ∷ []) ∷ Data false (1 ∷ 2 ∷ []) ∷ Asks (job.In 1) ∷ Silent ∷ Silent ∷ Silent ∷ Ack ∷ Asks (control set_configuration []) ∷ Silent ∷ Data true [] ∷ Asks (job.In 1) ∷ Silent ∷ Data false (4 ∷ []) ∷ []
a_reset_forgets = refl

-- configuration 0 takes the endpoints away
unconfigured : session small (asks set_configuration ∷ polls 0 true ∷ done 1 0 [] ∷ polls 0 true ∷ asks (0 ∷ 9 ∷ 0 ∷ 0 ∷ 0 ∷ 0 ∷ 0 ∷ 0 ∷ []) ∷ polls 0 true ∷ done 2 0 [] ∷ polls 0 true ∷ polls 1 true ∷ sends 2 false (1 ∷ []) ∷ [])
    ≡ Ack ∷ Asks (control set_configuration []) ∷ Silent ∷ Data true [] ∷ Ack ∷ Asks (control (0 ∷ 9 ∷ 0 ∷ 0 ∷ 0 ∷ 0 ∷ 0 ∷ 0 ∷ []) []) ∷ Silent ∷ Data true [] ∷ Silent ∷ Silent ∷ []
unconfigured = refl

-- before any setup endpoint 0 answers STALL
nothing_before_a_setup : session small (polls 0 true ∷ sends 0 true [] ∷ Acted (act.In 1 0 true) ∷ [])
    ≡ Stall ∷ Stall ∷ Silent ∷ []
nothing_before_a_setup = refl

-- a word is taken only once, and only where a job is outstanding
abbrev asked_items : List BridgeItem
asked_items = polls 0 true ∷ asks get_device ∷ []

abbrev asked : List Entry
asked = history_of small asked_items

first_is_taken : takes 1 asked ≡ true
first_is_taken = refl

another_is_not : takes 2 asked ≡ false
another_is_not = refl

second_is_not : takes 1 (entry_for small asked (done 1 0 device) ∷ asked) ≡ false
second_is_not = refl

none_before_a_job : takes 0 [] ≡ false
none_before_a_job = refl

-- nor one of another life, which changes nothing, or while the bridge is down
this_life_is_heard : bridge_takes 1 1 (IsUp small asked_items) ≡ true
this_life_is_heard = refl

another_life_is_not : bridge_takes 2 1 (IsUp small asked_items) ≡ false
another_life_is_not = refl

another_life_changes_nothing : after_done 2 1 0 device (IsUp small asked_items) ≡ IsUp small asked_items
another_life_changes_nothing = refl

no_life_is_heard_while_down : bridge_takes 1 1 IsDown ≡ false
no_life_is_heard_while_down = refl

silent_while_down : bridge_answer IsDown (act.Setup 0 (setup_of get_device)) ≡ answer.Silent
silent_while_down = refl

no_job_while_down : bridge_made IsDown (act.In 0 0 true) ≡ None
no_job_while_down = refl

-- jobs have the life and a number from 1 on
first_job : bridge_made (IsUp small (asks get_device ∷ [])) (act.In 0 0 true) ≡ Some (record { life = 1; number = 1; kind = control get_device [] })
first_job = refl

second_job : bridge_made (IsUp small (asks no_bytes ∷ done 1 0 device ∷ asked_items)) (act.In 0 0 true) ≡ Some (record { life = 1; number = 2; kind = control no_bytes [] })
second_job = refl

one_job_so_far : bridge_jobs (IsUp small (asks no_bytes ∷ done 1 0 device ∷ asked_items)) ≡ 1
one_job_so_far = refl
