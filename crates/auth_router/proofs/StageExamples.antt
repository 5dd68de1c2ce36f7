-- Each act at each stage of endpoint 0, before the token's answer and after it; each status of its answers; and what becomes
-- of the jobs of other endpoints. Each session is computed.
use Rattle.std.specs.Prelude.{◌≡◌, true, false, [], ◌∷◌, refl}
use Rattle.psd_base.specs.declared.act.Act.TheVariants as act
use Rattle.psd_base.specs.declared.console.JobKind.TheVariants as job
use Rattle.auth_router.specs.Entries.{Acted}
use Rattle.auth_router.proofs.Sessions.{Ack, Nak, Stall, Silent, Data, Asks, Sends, session, small, large, asks, polls, sends, done, control, device, get_device, write_three, no_bytes, get_eight, set_configuration, set_interface, set_address}

-- Data to the computer, before the token answers

-- an OUT with a byte is refused, and no job is made any more
a_byte_before_the_job : session small (asks get_device ∷ sends 0 true (1 ∷ []) ∷ polls 0 true ∷ sends 0 true [] ∷ [])
    ≡ Ack ∷ Stall ∷ Stall ∷ Stall ∷ []
a_byte_before_the_job = refl

-- so it is once the job is made
a_byte_before_the_answer : session small (asks get_device ∷ polls 0 true ∷ sends 0 true (1 ∷ []) ∷ polls 0 true ∷ done 1 0 device ∷ polls 0 true ∷ [])
    ≡ Ack ∷ Asks (control get_device []) ∷ Stall ∷ Stall ∷ Silent ∷ Stall ∷ []
a_byte_before_the_answer = refl

-- and an OUT of DATA0
the_other_toggle_before_the_job : session small (asks get_device ∷ sends 0 false [] ∷ sends 0 true [] ∷ polls 0 true ∷ [])
    ≡ Ack ∷ Stall ∷ Stall ∷ Stall ∷ []
the_other_toggle_before_the_job = refl

-- after an early status the next OUT that is no status is refused
after_an_early_status : session small (asks get_device ∷ polls 0 true ∷ sends 0 true [] ∷ sends 0 false [] ∷ sends 0 true [] ∷ polls 0 true ∷ [])
    ≡ Ack ∷ Asks (control get_device []) ∷ Ack ∷ Stall ∷ Stall ∷ Stall ∷ []
after_an_early_status = refl

-- also one of DATA1 with a byte, and the job still holds the next one back
a_byte_after_an_early_status : session small (asks get_device ∷ polls 0 true ∷ sends 0 true [] ∷ sends 0 true (1 ∷ []) ∷ sends 0 true [] ∷ asks no_bytes ∷ polls 0 true ∷ done 1 0 [] ∷ polls 0 true ∷ [])
    ≡ Ack ∷ Asks (control get_device []) ∷ Ack ∷ Stall ∷ Stall ∷ Ack ∷ Nak ∷ Silent ∷ Asks (control no_bytes []) ∷ []
a_byte_after_an_early_status = refl

-- Data to the computer, after the answer

-- the status may come before any data, and then again
early_status_after_the_answer : session small (asks get_device ∷ polls 0 true ∷ done 1 0 device ∷ sends 0 true [] ∷ sends 0 true [] ∷ polls 0 true ∷ sends 0 true [] ∷ [])
    ≡ Ack ∷ Asks (control get_device []) ∷ Silent ∷ Ack ∷ Ack ∷ Stall ∷ Stall ∷ []
early_status_after_the_answer = refl

-- or between two packets
early_status_after_a_packet : session small (asks get_device ∷ polls 0 true ∷ done 1 0 device ∷ polls 0 true ∷ sends 0 true [] ∷ sends 0 false [] ∷ sends 0 true [] ∷ [])
    ≡ Ack ∷ Asks (control get_device []) ∷ Silent ∷ Data true (18 ∷ 1 ∷ 0 ∷ 2 ∷ 0 ∷ 0 ∷ 0 ∷ 8 ∷ []) ∷ Ack ∷ Stall ∷ Stall ∷ []
early_status_after_a_packet = refl

-- an OUT with a byte is refused
a_byte_among_the_data : session small (asks get_device ∷ polls 0 true ∷ done 1 0 device ∷ polls 0 true ∷ sends 0 true (1 ∷ []) ∷ polls 0 true ∷ sends 0 true [] ∷ [])
    ≡ Ack ∷ Asks (control get_device []) ∷ Silent ∷ Data true (18 ∷ 1 ∷ 0 ∷ 2 ∷ 0 ∷ 0 ∷ 0 ∷ 8 ∷ []) ∷ Stall ∷ Stall ∷ Stall ∷ []
a_byte_among_the_data = refl

-- and one of DATA0
the_other_toggle_among_the_data : session small (asks get_device ∷ polls 0 true ∷ done 1 0 device ∷ sends 0 false [] ∷ polls 0 true ∷ sends 0 true [] ∷ [])
    ≡ Ack ∷ Asks (control get_device []) ∷ Silent ∷ Stall ∷ Stall ∷ Stall ∷ []
the_other_toggle_among_the_data = refl

-- where all data were acknowledged an IN is refused
in_after_the_data : session small (asks get_eight ∷ polls 0 true ∷ done 1 0 device ∷ polls 0 true ∷ polls 0 true ∷ sends 0 true [] ∷ [])
    ≡ Ack ∷ Asks (control get_eight []) ∷ Silent ∷ Data true (18 ∷ 1 ∷ 0 ∷ 2 ∷ 0 ∷ 0 ∷ 0 ∷ 8 ∷ []) ∷ Stall ∷ Stall ∷ []
in_after_the_data = refl

-- and an OUT of DATA0
the_other_toggle_after_the_data : session small (asks get_eight ∷ polls 0 true ∷ done 1 0 device ∷ polls 0 true ∷ sends 0 false [] ∷ sends 0 true [] ∷ polls 0 true ∷ [])
    ≡ Ack ∷ Asks (control get_eight []) ∷ Silent ∷ Data true (18 ∷ 1 ∷ 0 ∷ 2 ∷ 0 ∷ 0 ∷ 0 ∷ 8 ∷ []) ∷ Stall ∷ Stall ∷ Stall ∷ []
the_other_toggle_after_the_data = refl

-- and one with a byte
a_byte_after_the_data : session small (asks get_eight ∷ polls 0 true ∷ done 1 0 device ∷ polls 0 true ∷ sends 0 true (1 ∷ []) ∷ sends 0 true [] ∷ polls 0 true ∷ [])
    ≡ Ack ∷ Asks (control get_eight []) ∷ Silent ∷ Data true (18 ∷ 1 ∷ 0 ∷ 2 ∷ 0 ∷ 0 ∷ 0 ∷ 8 ∷ []) ∷ Stall ∷ Stall ∷ Stall ∷ []
a_byte_after_the_data = refl

-- the status ends the transfer; it may come again, and nothing else
status_after_the_data : session small (asks get_eight ∷ polls 0 true ∷ done 1 0 device ∷ polls 0 true ∷ sends 0 true [] ∷ sends 0 true [] ∷ sends 0 true (1 ∷ []) ∷ sends 0 true [] ∷ [])
    ≡ Ack ∷ Asks (control get_eight []) ∷ Silent ∷ Data true (18 ∷ 1 ∷ 0 ∷ 2 ∷ 0 ∷ 0 ∷ 0 ∷ 8 ∷ []) ∷ Ack ∷ Ack ∷ Stall ∷ Stall ∷ []
status_after_the_data = refl

-- as no OUT of DATA0
the_other_toggle_after_the_status : session small (asks get_eight ∷ polls 0 true ∷ done 1 0 device ∷ polls 0 true ∷ sends 0 true [] ∷ sends 0 false [] ∷ sends 0 true [] ∷ [])
    ≡ Ack ∷ Asks (control get_eight []) ∷ Silent ∷ Data true (18 ∷ 1 ∷ 0 ∷ 2 ∷ 0 ∷ 0 ∷ 0 ∷ 8 ∷ []) ∷ Ack ∷ Stall ∷ Stall ∷ []
the_other_toggle_after_the_status = refl

-- sixteen bytes where sixteen were asked for are two packets
data_of_two_packets_in_full : session small (asks (128 ∷ 6 ∷ 0 ∷ 1 ∷ 0 ∷ 0 ∷ 16 ∷ 0 ∷ []) ∷ polls 0 true ∷ done 1 0 device ∷ polls 0 true ∷ polls 0 true ∷ polls 0 true ∷ [])
    ≡ Ack ∷ Asks (control (128 ∷ 6 ∷ 0 ∷ 1 ∷ 0 ∷ 0 ∷ 16 ∷ 0 ∷ []) []) ∷ Silent ∷ Data true (18 ∷ 1 ∷ 0 ∷ 2 ∷ 0 ∷ 0 ∷ 0 ∷ 8 ∷ []) ∷ Data false (52 ∷ 18 ∷ 3 ∷ 0 ∷ 0 ∷ 1 ∷ 0 ∷ 0 ∷ []) ∷ Stall ∷ []
data_of_two_packets_in_full = refl

-- seventy bytes are a packet of 64 and one of six, where packets have 64 bytes
seventy_bytes : session large (asks (128 ∷ 6 ∷ 0 ∷ 2 ∷ 0 ∷ 0 ∷ 100 ∷ 0 ∷ []) ∷ polls 0 true ∷ done 1 0 (0 ∷ 1 ∷ 2 ∷ 3 ∷ 4 ∷ 5 ∷ 6 ∷ 7 ∷ 8 ∷ 9 ∷ 10 ∷ 11 ∷ 12 ∷ 13 ∷ 14 ∷ 15 ∷ 16 ∷ 17 ∷ 18 ∷ 19 ∷ 20 ∷ 21 ∷ 22 ∷ 23 ∷ 24 ∷ 25 ∷ 26 ∷ 27 ∷ 28 ∷ 29 ∷ 30 ∷ 31 ∷ 32 ∷ 33 ∷ 34 ∷ 35 ∷ 36 ∷ 37 ∷ 38 ∷ 39 ∷ 40 ∷ 41 ∷ 42 ∷ 43 ∷ 44 ∷ 45 ∷ 46 ∷ 47 ∷ 48 ∷ 49 ∷ 50 ∷ 51 ∷ 52 ∷ 53 ∷ 54 ∷ 55 ∷ 56 ∷ 57 ∷ 58 ∷ 59 ∷ 60 ∷ 61 ∷ 62 ∷ 63 ∷ 64 ∷ 65 ∷ 66 ∷ 67 ∷ 68 ∷ 69 ∷ []) ∷ polls 0 false ∷ polls 0 true ∷ polls 0 true ∷ polls 0 true ∷ [])
    ≡ Ack ∷ Asks (control (128 ∷ 6 ∷ 0 ∷ 2 ∷ 0 ∷ 0 ∷ 100 ∷ 0 ∷ []) []) ∷ Silent ∷ Data true (0 ∷ 1 ∷ 2 ∷ 3 ∷ 4 ∷ 5 ∷ 6 ∷ 7 ∷ 8 ∷ 9 ∷ 10 ∷ 11 ∷ 12 ∷ 13 ∷ 14 ∷ 15 ∷ 16 ∷ 17 ∷ 18 ∷ 19 ∷ 20 ∷ 21 ∷ 22 ∷ 23 ∷ 24 ∷ 25 ∷ 26 ∷ 27 ∷ 28 ∷ 29 ∷ 30 ∷ 31 ∷ 32 ∷ 33 ∷ 34 ∷ 35 ∷ 36 ∷ 37 ∷ 38 ∷ 39 ∷ 40 ∷ 41 ∷ 42 ∷ 43 ∷ 44 ∷ 45 ∷ 46 ∷ 47 ∷ 48 ∷ 49 ∷ 50 ∷ 51 ∷ 52 ∷ 53 ∷ 54 ∷ 55 ∷ 56 ∷ 57 ∷ 58 ∷ 59 ∷ 60 ∷ 61 ∷ 62 ∷ 63 ∷ []) ∷ Data true (0 ∷ 1 ∷ 2 ∷ 3 ∷ 4 ∷ 5 ∷ 6 ∷ 7 ∷ 8 ∷ 9 ∷ 10 ∷ 11 ∷ 12 ∷ 13 ∷ 14 ∷ 15 ∷ 16 ∷ 17 ∷ 18 ∷ 19 ∷ 20 ∷ 21 ∷ 22 ∷ 23 ∷ 24 ∷ 25 ∷ 26 ∷ 27 ∷ 28 ∷ 29 ∷ 30 ∷ 31 ∷ 32 ∷ 33 ∷ 34 ∷ 35 ∷ 36 ∷ 37 ∷ 38 ∷ 39 ∷ 40 ∷ 41 ∷ 42 ∷ 43 ∷ 44 ∷ 45 ∷ 46 ∷ 47 ∷ 48 ∷ 49 ∷ 50 ∷ 51 ∷ 52 ∷ 53 ∷ 54 ∷ 55 ∷ 56 ∷ 57 ∷ 58 ∷ 59 ∷ 60 ∷ 61 ∷ 62 ∷ 63 ∷ []) ∷ Data false (64 ∷ 65 ∷ 66 ∷ 67 ∷ 68 ∷ 69 ∷ []) ∷ Stall ∷ []
seventy_bytes = refl

-- 64 bytes of a hundred are ended by a packet of no bytes
sixty_four_bytes : session large (asks (128 ∷ 6 ∷ 0 ∷ 2 ∷ 0 ∷ 0 ∷ 100 ∷ 0 ∷ []) ∷ polls 0 true ∷ done 1 0 (0 ∷ 1 ∷ 2 ∷ 3 ∷ 4 ∷ 5 ∷ 6 ∷ 7 ∷ 8 ∷ 9 ∷ 10 ∷ 11 ∷ 12 ∷ 13 ∷ 14 ∷ 15 ∷ 16 ∷ 17 ∷ 18 ∷ 19 ∷ 20 ∷ 21 ∷ 22 ∷ 23 ∷ 24 ∷ 25 ∷ 26 ∷ 27 ∷ 28 ∷ 29 ∷ 30 ∷ 31 ∷ 32 ∷ 33 ∷ 34 ∷ 35 ∷ 36 ∷ 37 ∷ 38 ∷ 39 ∷ 40 ∷ 41 ∷ 42 ∷ 43 ∷ 44 ∷ 45 ∷ 46 ∷ 47 ∷ 48 ∷ 49 ∷ 50 ∷ 51 ∷ 52 ∷ 53 ∷ 54 ∷ 55 ∷ 56 ∷ 57 ∷ 58 ∷ 59 ∷ 60 ∷ 61 ∷ 62 ∷ 63 ∷ []) ∷ polls 0 true ∷ polls 0 true ∷ sends 0 true [] ∷ [])
    ≡ Ack ∷ Asks (control (128 ∷ 6 ∷ 0 ∷ 2 ∷ 0 ∷ 0 ∷ 100 ∷ 0 ∷ []) []) ∷ Silent ∷ Data true (0 ∷ 1 ∷ 2 ∷ 3 ∷ 4 ∷ 5 ∷ 6 ∷ 7 ∷ 8 ∷ 9 ∷ 10 ∷ 11 ∷ 12 ∷ 13 ∷ 14 ∷ 15 ∷ 16 ∷ 17 ∷ 18 ∷ 19 ∷ 20 ∷ 21 ∷ 22 ∷ 23 ∷ 24 ∷ 25 ∷ 26 ∷ 27 ∷ 28 ∷ 29 ∷ 30 ∷ 31 ∷ 32 ∷ 33 ∷ 34 ∷ 35 ∷ 36 ∷ 37 ∷ 38 ∷ 39 ∷ 40 ∷ 41 ∷ 42 ∷ 43 ∷ 44 ∷ 45 ∷ 46 ∷ 47 ∷ 48 ∷ 49 ∷ 50 ∷ 51 ∷ 52 ∷ 53 ∷ 54 ∷ 55 ∷ 56 ∷ 57 ∷ 58 ∷ 59 ∷ 60 ∷ 61 ∷ 62 ∷ 63 ∷ []) ∷ Data false [] ∷ Ack ∷ []
sixty_four_bytes = refl

-- no bytes are one packet of none
no_bytes_at_all : session small (asks get_device ∷ polls 0 true ∷ done 1 0 [] ∷ polls 0 true ∷ sends 0 true [] ∷ polls 0 true ∷ [])
    ≡ Ack ∷ Asks (control get_device []) ∷ Silent ∷ Data true [] ∷ Ack ∷ Stall ∷ []
no_bytes_at_all = refl

-- Data from the computer, before the answer

-- an IN before all bytes are in is refused, and all that comes then
in_among_the_data : session small (asks write_three ∷ sends 0 true (1 ∷ 2 ∷ []) ∷ polls 0 true ∷ sends 0 false (3 ∷ []) ∷ polls 0 true ∷ [])
    ≡ Ack ∷ Ack ∷ Stall ∷ Stall ∷ Stall ∷ []
in_among_the_data = refl

-- a packet of no bytes turns the toggle
an_empty_packet_counts : session small (asks write_three ∷ sends 0 true [] ∷ sends 0 true (9 ∷ []) ∷ sends 0 false (1 ∷ 2 ∷ 3 ∷ []) ∷ polls 0 true ∷ [])
    ≡ Ack ∷ Ack ∷ Ack ∷ Ack ∷ Asks (control write_three (1 ∷ 2 ∷ 3 ∷ [])) ∷ []
an_empty_packet_counts = refl

-- a packet with more bytes than are left is refused
too_many_in_the_second : session small (asks write_three ∷ sends 0 true (1 ∷ 2 ∷ []) ∷ sends 0 false (3 ∷ 4 ∷ []) ∷ polls 0 true ∷ [])
    ≡ Ack ∷ Ack ∷ Stall ∷ Stall ∷ []
too_many_in_the_second = refl

-- once all bytes are in a further packet is refused
more_before_the_job : session small (asks write_three ∷ sends 0 true (1 ∷ 2 ∷ 3 ∷ []) ∷ sends 0 false [] ∷ polls 0 true ∷ sends 0 true (9 ∷ []) ∷ [])
    ≡ Ack ∷ Ack ∷ Stall ∷ Stall ∷ Stall ∷ []
more_before_the_job = refl

-- also while the token is asked; a repeated one is dropped, and the job holds back others
more_before_the_answer : session small (asks write_three ∷ sends 0 true (1 ∷ 2 ∷ 3 ∷ []) ∷ polls 0 true ∷ sends 0 true (1 ∷ 2 ∷ 3 ∷ []) ∷ polls 0 true ∷ sends 0 false (4 ∷ []) ∷ polls 0 true ∷ asks no_bytes ∷ polls 0 true ∷ done 1 0 [] ∷ polls 0 true ∷ [])
    ≡ Ack ∷ Ack ∷ Asks (control write_three (1 ∷ 2 ∷ 3 ∷ [])) ∷ Ack ∷ Nak ∷ Stall ∷ Stall ∷ Ack ∷ Nak ∷ Silent ∷ Asks (control no_bytes []) ∷ []
more_before_the_answer = refl

-- what the token answers then changes nothing
refused_before_the_answer : session small (asks write_three ∷ sends 0 true (1 ∷ 2 ∷ 3 ∷ []) ∷ polls 0 true ∷ sends 0 false (4 ∷ []) ∷ done 1 0 [] ∷ polls 0 true ∷ sends 0 true (9 ∷ []) ∷ [])
    ≡ Ack ∷ Ack ∷ Asks (control write_three (1 ∷ 2 ∷ 3 ∷ [])) ∷ Stall ∷ Silent ∷ Stall ∷ Stall ∷ []
refused_before_the_answer = refl

-- Data from the computer, after the answer

-- a repeated packet is dropped, and the status goes on
repeated_after_the_answer : session small (asks write_three ∷ sends 0 true (1 ∷ 2 ∷ 3 ∷ []) ∷ polls 0 true ∷ done 1 0 [] ∷ sends 0 true (1 ∷ 2 ∷ 3 ∷ []) ∷ polls 0 false ∷ polls 0 true ∷ polls 0 true ∷ [])
    ≡ Ack ∷ Ack ∷ Asks (control write_three (1 ∷ 2 ∷ 3 ∷ [])) ∷ Silent ∷ Ack ∷ Data true [] ∷ Data true [] ∷ Stall ∷ []
repeated_after_the_answer = refl

-- a further one is refused
more_after_the_answer : session small (asks write_three ∷ sends 0 true (1 ∷ 2 ∷ 3 ∷ []) ∷ polls 0 true ∷ done 1 0 [] ∷ sends 0 false [] ∷ polls 0 true ∷ sends 0 true (9 ∷ []) ∷ [])
    ≡ Ack ∷ Ack ∷ Asks (control write_three (1 ∷ 2 ∷ 3 ∷ [])) ∷ Silent ∷ Stall ∷ Stall ∷ Stall ∷ []
more_after_the_answer = refl

-- and after the status any
more_after_the_status : session small (asks write_three ∷ sends 0 true (1 ∷ 2 ∷ 3 ∷ []) ∷ polls 0 true ∷ done 1 0 [] ∷ polls 0 true ∷ sends 0 true (9 ∷ []) ∷ polls 0 true ∷ [])
    ≡ Ack ∷ Ack ∷ Asks (control write_three (1 ∷ 2 ∷ 3 ∷ [])) ∷ Silent ∷ Data true [] ∷ Stall ∷ Stall ∷ []
more_after_the_status = refl

-- of either toggle
the_next_toggle_after_the_status : session small (asks write_three ∷ sends 0 true (1 ∷ 2 ∷ 3 ∷ []) ∷ polls 0 true ∷ done 1 0 [] ∷ polls 0 true ∷ sends 0 false (9 ∷ []) ∷ polls 0 true ∷ [])
    ≡ Ack ∷ Ack ∷ Asks (control write_three (1 ∷ 2 ∷ 3 ∷ [])) ∷ Silent ∷ Data true [] ∷ Stall ∷ Stall ∷ []
the_next_toggle_after_the_status = refl

-- No data

-- an OUT is refused while the token is asked, and what it answers changes nothing
out_before_the_answer : session small (asks no_bytes ∷ polls 0 true ∷ sends 0 true [] ∷ polls 0 true ∷ done 1 0 [] ∷ polls 0 true ∷ [])
    ≡ Ack ∷ Asks (control no_bytes []) ∷ Stall ∷ Stall ∷ Silent ∷ Stall ∷ []
out_before_the_answer = refl

-- and after the answer
out_after_the_answer : session small (asks no_bytes ∷ polls 0 true ∷ done 1 0 [] ∷ polls 0 false ∷ sends 0 true [] ∷ polls 0 true ∷ [])
    ≡ Ack ∷ Asks (control no_bytes []) ∷ Silent ∷ Data true [] ∷ Stall ∷ Stall ∷ []
out_after_the_answer = refl

-- of either toggle
the_other_toggle_after_the_answer : session small (asks no_bytes ∷ polls 0 true ∷ done 1 0 [] ∷ sends 0 false [] ∷ polls 0 true ∷ [])
    ≡ Ack ∷ Asks (control no_bytes []) ∷ Silent ∷ Stall ∷ Stall ∷ []
the_other_toggle_after_the_answer = refl

-- and after the acknowledged status, as any act
out_after_its_end : session small (asks no_bytes ∷ polls 0 true ∷ done 1 0 [] ∷ polls 0 true ∷ sends 0 true [] ∷ polls 0 true ∷ sends 0 false [] ∷ [])
    ≡ Ack ∷ Asks (control no_bytes []) ∷ Silent ∷ Data true [] ∷ Stall ∷ Stall ∷ Stall ∷ []
out_after_its_end = refl

-- bytes that the token gives are not used
bytes_of_the_answer_are_dropped : session small (asks no_bytes ∷ polls 0 true ∷ done 1 0 (5 ∷ []) ∷ polls 0 true ∷ [])
    ≡ Ack ∷ Asks (control no_bytes []) ∷ Silent ∷ Data true [] ∷ []
bytes_of_the_answer_are_dropped = refl

-- SET_ADDRESS, which the bridge serves itself

-- an OUT is refused, and the address stays
an_out_before_its_status : session small (asks set_address ∷ sends 0 true [] ∷ polls 0 true ∷ asks get_device ∷ [])
    ≡ Ack ∷ Stall ∷ Stall ∷ Ack ∷ []
an_out_before_its_status = refl

-- after the status each act is refused at the new address, and none answered at the old
an_act_after_its_status : session small (asks set_address ∷ polls 0 true ∷ Acted (act.Out 5 0 true []) ∷ Acted (act.In 5 0 true) ∷ sends 0 true [] ∷ [])
    ≡ Ack ∷ Data true [] ∷ Stall ∷ Stall ∷ Silent ∷ []
an_act_after_its_status = refl

-- A request error, by the bridge and by the token

-- data from the computer of a request that the bridge doesn't let pass
refused_by_the_bridge : session small (asks (0 ∷ 9 ∷ 2 ∷ 0 ∷ 0 ∷ 0 ∷ 1 ∷ 0 ∷ []) ∷ sends 0 true (1 ∷ []) ∷ sends 0 false (1 ∷ []) ∷ polls 0 true ∷ sends 0 true [] ∷ [])
    ≡ Ack ∷ Stall ∷ Stall ∷ Stall ∷ Stall ∷ []
refused_by_the_bridge = refl

-- data from the computer, status 2
writing_fails_by_2 : session small (asks write_three ∷ sends 0 true (1 ∷ 2 ∷ 3 ∷ []) ∷ polls 0 true ∷ done 1 2 [] ∷ sends 0 true (1 ∷ 2 ∷ 3 ∷ []) ∷ polls 0 true ∷ [])
    ≡ Ack ∷ Ack ∷ Asks (control write_three (1 ∷ 2 ∷ 3 ∷ [])) ∷ Silent ∷ Stall ∷ Stall ∷ []
writing_fails_by_2 = refl

-- data from the computer, status 3
writing_fails_by_3 : session small (asks write_three ∷ sends 0 true (1 ∷ 2 ∷ 3 ∷ []) ∷ polls 0 true ∷ done 1 3 [] ∷ sends 0 true (1 ∷ 2 ∷ 3 ∷ []) ∷ polls 0 true ∷ [])
    ≡ Ack ∷ Ack ∷ Asks (control write_three (1 ∷ 2 ∷ 3 ∷ [])) ∷ Silent ∷ Stall ∷ Stall ∷ []
writing_fails_by_3 = refl

-- data from the computer, status 4
writing_fails_by_4 : session small (asks write_three ∷ sends 0 true (1 ∷ 2 ∷ 3 ∷ []) ∷ polls 0 true ∷ done 1 4 [] ∷ sends 0 true (1 ∷ 2 ∷ 3 ∷ []) ∷ polls 0 true ∷ [])
    ≡ Ack ∷ Ack ∷ Asks (control write_three (1 ∷ 2 ∷ 3 ∷ [])) ∷ Silent ∷ Stall ∷ Stall ∷ []
writing_fails_by_4 = refl

-- data from the computer, status 255
writing_fails_by_255 : session small (asks write_three ∷ sends 0 true (1 ∷ 2 ∷ 3 ∷ []) ∷ polls 0 true ∷ done 1 255 [] ∷ sends 0 true (1 ∷ 2 ∷ 3 ∷ []) ∷ polls 0 true ∷ [])
    ≡ Ack ∷ Ack ∷ Asks (control write_three (1 ∷ 2 ∷ 3 ∷ [])) ∷ Silent ∷ Stall ∷ Stall ∷ []
writing_fails_by_255 = refl

-- no data, status 1
no_data_fails_by_1 : session small (asks no_bytes ∷ polls 0 true ∷ done 1 1 [] ∷ polls 0 true ∷ sends 0 true [] ∷ [])
    ≡ Ack ∷ Asks (control no_bytes []) ∷ Silent ∷ Stall ∷ Stall ∷ []
no_data_fails_by_1 = refl

-- no data, status 2
no_data_fails_by_2 : session small (asks no_bytes ∷ polls 0 true ∷ done 1 2 [] ∷ polls 0 true ∷ sends 0 true [] ∷ [])
    ≡ Ack ∷ Asks (control no_bytes []) ∷ Silent ∷ Stall ∷ Stall ∷ []
no_data_fails_by_2 = refl

-- no data, status 3
no_data_fails_by_3 : session small (asks no_bytes ∷ polls 0 true ∷ done 1 3 [] ∷ polls 0 true ∷ sends 0 true [] ∷ [])
    ≡ Ack ∷ Asks (control no_bytes []) ∷ Silent ∷ Stall ∷ Stall ∷ []
no_data_fails_by_3 = refl

-- no data, status 4
no_data_fails_by_4 : session small (asks no_bytes ∷ polls 0 true ∷ done 1 4 [] ∷ polls 0 true ∷ sends 0 true [] ∷ [])
    ≡ Ack ∷ Asks (control no_bytes []) ∷ Silent ∷ Stall ∷ Stall ∷ []
no_data_fails_by_4 = refl

-- no data, status 255
no_data_fails_by_255 : session small (asks no_bytes ∷ polls 0 true ∷ done 1 255 [] ∷ polls 0 true ∷ sends 0 true [] ∷ [])
    ≡ Ack ∷ Asks (control no_bytes []) ∷ Silent ∷ Stall ∷ Stall ∷ []
no_data_fails_by_255 = refl

-- data to the computer, status 4
reading_fails_by_4 : session small (asks get_device ∷ polls 0 true ∷ done 1 4 device ∷ polls 0 true ∷ sends 0 true [] ∷ [])
    ≡ Ack ∷ Asks (control get_device []) ∷ Silent ∷ Stall ∷ Stall ∷ []
reading_fails_by_4 = refl

-- data to the computer, status 255
reading_fails_by_255 : session small (asks get_device ∷ polls 0 true ∷ done 1 255 device ∷ polls 0 true ∷ sends 0 true [] ∷ [])
    ≡ Ack ∷ Asks (control get_device []) ∷ Silent ∷ Stall ∷ Stall ∷ []
reading_fails_by_255 = refl

-- Other endpoints

-- status 4 halts an IN endpoint
halted_in_by_4 : session small (asks set_configuration ∷ polls 0 true ∷ done 1 0 [] ∷ polls 0 true ∷ polls 1 true ∷ done 2 4 (1 ∷ []) ∷ polls 1 true ∷ polls 1 true ∷ [])
    ≡ Ack ∷ Asks (control set_configuration []) ∷ Silent ∷ Data true [] ∷ Asks (job.In 1) ∷ Silent ∷ Stall ∷ Stall ∷ []
halted_in_by_4 = refl

-- and an OUT endpoint
halted_out_by_4 : session small (asks set_configuration ∷ polls 0 true ∷ done 1 0 [] ∷ polls 0 true ∷ sends 2 false (1 ∷ []) ∷ done 2 4 [] ∷ sends 2 true (2 ∷ []) ∷ sends 2 false (2 ∷ []) ∷ [])
    ≡ Ack ∷ Asks (control set_configuration []) ∷ Silent ∷ Data true [] ∷ Sends (job.Out 2 (1 ∷ [])) ∷ Silent ∷ Stall ∷ Stall ∷ []
halted_out_by_4 = refl

-- status 255 halts an IN endpoint
halted_in_by_255 : session small (asks set_configuration ∷ polls 0 true ∷ done 1 0 [] ∷ polls 0 true ∷ polls 1 true ∷ done 2 255 (1 ∷ []) ∷ polls 1 true ∷ polls 1 true ∷ [])
    ≡ Ack ∷ Asks (control set_configuration []) ∷ Silent ∷ Data true [] ∷ Asks (job.In 1) ∷ Silent ∷ Stall ∷ Stall ∷ []
halted_in_by_255 = refl

-- and an OUT endpoint
halted_out_by_255 : session small (asks set_configuration ∷ polls 0 true ∷ done 1 0 [] ∷ polls 0 true ∷ sends 2 false (1 ∷ []) ∷ done 2 255 [] ∷ sends 2 true (2 ∷ []) ∷ sends 2 false (2 ∷ []) ∷ [])
    ≡ Ack ∷ Asks (control set_configuration []) ∷ Silent ∷ Data true [] ∷ Sends (job.Out 2 (1 ∷ [])) ∷ Silent ∷ Stall ∷ Stall ∷ []
halted_out_by_255 = refl

-- a packet of no bytes is one, and is held until it is acknowledged
a_packet_of_no_bytes_is_held : session small (asks set_configuration ∷ polls 0 true ∷ done 1 0 [] ∷ polls 0 true ∷ polls 1 true ∷ done 2 0 [] ∷ polls 1 false ∷ polls 1 true ∷ polls 1 true ∷ [])
    ≡ Ack ∷ Asks (control set_configuration []) ∷ Silent ∷ Data true [] ∷ Asks (job.In 1) ∷ Silent ∷ Data false [] ∷ Data false [] ∷ Asks (job.In 1) ∷ []
a_packet_of_no_bytes_is_held = refl

-- what comes with the answer to an OUT is not used
bytes_of_an_out_are_dropped : session small (asks set_configuration ∷ polls 0 true ∷ done 1 0 [] ∷ polls 0 true ∷ sends 2 false (1 ∷ []) ∷ done 2 0 (5 ∷ []) ∷ polls 1 true ∷ sends 2 false (1 ∷ []) ∷ sends 2 true (2 ∷ []) ∷ [])
    ≡ Ack ∷ Asks (control set_configuration []) ∷ Silent ∷ Data true [] ∷ Sends (job.Out 2 (1 ∷ [])) ∷ Silent ∷ Asks (job.In 1) ∷ Ack ∷ Nak ∷ []
bytes_of_an_out_are_dropped = refl

-- Orphaned jobs of other endpoints

-- a bus reset orphans the job of an IN endpoint, which holds back others until it is done
a_reset_orphans_an_in : session small (asks set_configuration ∷ polls 0 true ∷ done 1 0 [] ∷ polls 0 true ∷ polls 1 true ∷ Acted act.Reset ∷ asks set_configuration ∷ polls 0 true ∷ done 2 0 (1 ∷ []) ∷ polls 0 true ∷ done 3 0 [] ∷ polls 0 true ∷ polls 1 true ∷ done 4 0 (5 ∷ []) ∷ polls 1 true ∷ [])
    ≡ Ack ∷ Asks (control set_configuration []) ∷ Silent ∷ Data true [] ∷ Asks (job.In 1) ∷ Silent ∷ Ack ∷ Nak ∷ Silent ∷ Asks (control set_configuration []) ∷ Silent ∷ Data true [] ∷ Asks (job.In 1) ∷ Silent ∷ Data false (5 ∷ []) ∷ []
a_reset_orphans_an_in = refl

-- and that of an OUT endpoint, which isn't halted by it
a_reset_orphans_an_out : session small (asks set_configuration ∷ polls 0 true ∷ done 1 0 [] ∷ polls 0 true ∷ sends 2 false (1 ∷ []) ∷ Acted act.Reset ∷ asks set_configuration ∷ polls 0 true ∷ done 2 1 [] ∷ polls 0 true ∷ done 3 0 [] ∷ polls 0 true ∷ sends 2 false (2 ∷ []) ∷ [])
    ≡ Ack ∷ Asks (control set_configuration []) ∷ Silent ∷ Data true [] ∷ Sends (job.Out 2 (1 ∷ [])) ∷ Silent ∷ Ack ∷ Nak ∷ Silent ∷ Asks (control set_configuration []) ∷ Silent ∷ Data true [] ∷ Sends (job.Out 2 (2 ∷ [])) ∷ []
a_reset_orphans_an_out = refl

-- a bus reset ends halts
a_reset_ends_halts : session small (asks set_configuration ∷ polls 0 true ∷ done 1 0 [] ∷ polls 0 true ∷ polls 1 true ∷ done 2 1 [] ∷ polls 1 true ∷ Acted act.Reset ∷ asks set_configuration ∷ polls 0 true ∷ done 3 0 [] ∷ polls 0 true ∷ polls 1 true ∷ [])
    ≡ Ack ∷ Asks (control set_configuration []) ∷ Silent ∷ Data true [] ∷ Asks (job.In 1) ∷ Silent ∷ Stall ∷ Silent ∷ Ack ∷ Asks (control set_configuration []) ∷ Silent ∷ Data true [] ∷ Asks (job.In 1) ∷ []
a_reset_ends_halts = refl

-- SET_CONFIGURATION orphans the job of an OUT endpoint too
configuration_orphans_an_out : session small (asks set_configuration ∷ polls 0 true ∷ done 1 0 [] ∷ polls 0 true ∷ asks set_configuration ∷ polls 0 true ∷ done 2 0 [] ∷ sends 2 false (1 ∷ []) ∷ polls 0 true ∷ sends 2 false (2 ∷ []) ∷ done 3 1 [] ∷ sends 2 false (2 ∷ []) ∷ [])
    ≡ Ack ∷ Asks (control set_configuration []) ∷ Silent ∷ Data true [] ∷ Ack ∷ Asks (control set_configuration []) ∷ Silent ∷ Sends (job.Out 2 (1 ∷ [])) ∷ Data true [] ∷ Nak ∷ Silent ∷ Sends (job.Out 2 (2 ∷ [])) ∷ []
configuration_orphans_an_out = refl

-- an orphaned job of an IN endpoint halts nothing
an_orphan_halts_nothing : session small (asks set_configuration ∷ polls 0 true ∷ done 1 0 [] ∷ polls 0 true ∷ asks set_configuration ∷ polls 0 true ∷ done 2 0 [] ∷ polls 1 true ∷ polls 0 true ∷ done 3 1 [] ∷ polls 1 true ∷ [])
    ≡ Ack ∷ Asks (control set_configuration []) ∷ Silent ∷ Data true [] ∷ Ack ∷ Asks (control set_configuration []) ∷ Silent ∷ Asks (job.In 1) ∷ Data true [] ∷ Silent ∷ Asks (job.In 1) ∷ []
an_orphan_halts_nothing = refl

-- before its status is acknowledged nothing is orphaned
not_before_the_status : session small (asks set_configuration ∷ polls 0 true ∷ done 1 0 [] ∷ polls 0 true ∷ asks set_configuration ∷ polls 0 true ∷ done 2 0 [] ∷ polls 1 true ∷ polls 0 false ∷ done 3 0 (1 ∷ []) ∷ polls 1 false ∷ polls 0 true ∷ polls 1 true ∷ [])
    ≡ Ack ∷ Asks (control set_configuration []) ∷ Silent ∷ Data true [] ∷ Ack ∷ Asks (control set_configuration []) ∷ Silent ∷ Asks (job.In 1) ∷ Data true [] ∷ Silent ∷ Data false (1 ∷ []) ∷ Data true [] ∷ Asks (job.In 1) ∷ []
not_before_the_status = refl

-- SET_INTERFACE orphans no job
interface_keeps_a_job : session small (asks set_configuration ∷ polls 0 true ∷ done 1 0 [] ∷ polls 0 true ∷ asks set_interface ∷ polls 0 true ∷ done 2 0 [] ∷ polls 1 true ∷ polls 0 true ∷ done 3 0 (1 ∷ []) ∷ polls 1 true ∷ [])
    ≡ Ack ∷ Asks (control set_configuration []) ∷ Silent ∷ Data true [] ∷ Ack ∷ Asks (control set_interface []) ∷ Silent ∷ Asks (job.In 1) ∷ Data true [] ∷ Silent ∷ Data false (1 ∷ []) ∷ []
interface_keeps_a_job = refl

-- an early status orphans no job of another endpoint
an_early_status_keeps_a_job : session small (asks set_configuration ∷ polls 0 true ∷ done 1 0 [] ∷ polls 0 true ∷ polls 1 true ∷ asks get_device ∷ polls 0 true ∷ sends 0 true [] ∷ done 2 0 (1 ∷ []) ∷ polls 1 true ∷ [])
    ≡ Ack ∷ Asks (control set_configuration []) ∷ Silent ∷ Data true [] ∷ Asks (job.In 1) ∷ Ack ∷ Nak ∷ Ack ∷ Silent ∷ Data false (1 ∷ []) ∷ []
an_early_status_keeps_a_job = refl
