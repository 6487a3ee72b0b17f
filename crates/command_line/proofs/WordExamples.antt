-- Words and their rows, computed.
use Rattle.std.specs.Prelude.{◌≡◌, [], ◌∷◌, codes, Some, None, refl}
use Rattle.h265_model.specs.declared.extra.Extra.TheVariants.{Hash, Segments, Moves}
use Rattle.h265_model.specs.Settings.{plain}
use Rattle.recorder_model.specs.Script.{number_up_to}
use Rattle.command_line.specs.Words.{Record, Serial, Demo, row_of, settings_words}

served : row_of (codes "serial" ∷ codes "32x32" ∷ codes "0" ∷ codes "1" ∷ codes "o" ∷ codes "f" ∷ []) ≡ Some (Serial (record { settings = plain (record { w = 32; h = 32 }) 0 1; out = codes "o"; file = codes "f" }))
unfolding row_of settings_words number_up_to
served = refl

no_word : row_of ([]) ≡ None
unfolding row_of settings_words number_up_to
no_word = refl

no_width : row_of (codes "serial" ∷ codes "0x5" ∷ codes "0" ∷ codes "1" ∷ codes "o" ∷ codes "f" ∷ []) ≡ None
unfolding row_of settings_words number_up_to
no_width = refl

width_with_a_zero_before : row_of (codes "serial" ∷ codes "032x32" ∷ codes "0" ∷ codes "1" ∷ codes "o" ∷ codes "f" ∷ []) ≡ None
unfolding row_of settings_words number_up_to
width_with_a_zero_before = refl

too_wide : row_of (codes "serial" ∷ codes "4097x1" ∷ codes "0" ∷ codes "1" ∷ codes "o" ∷ codes "f" ∷ []) ≡ None
unfolding row_of settings_words number_up_to
too_wide = refl

too_large : row_of (codes "serial" ∷ codes "4096x2161" ∷ codes "0" ∷ codes "1" ∷ codes "o" ∷ codes "f" ∷ []) ≡ None
unfolding row_of settings_words number_up_to
too_large = refl

sixty_five_workers : row_of (codes "record" ∷ codes "32x32" ∷ codes "65" ∷ codes "0" ∷ codes "0" ∷ codes "o" ∷ codes "f" ∷ []) ≡ None
unfolding row_of settings_words number_up_to
sixty_five_workers = refl

no_file : row_of (codes "record" ∷ codes "32x32" ∷ codes "1" ∷ codes "0" ∷ codes "0" ∷ codes "o" ∷ []) ≡ None
unfolding row_of settings_words number_up_to
no_file = refl

effort_three : row_of (codes "serial" ∷ codes "32x32" ∷ codes "3" ∷ codes "1" ∷ codes "o" ∷ codes "f" ∷ []) ≡ None
unfolding row_of settings_words number_up_to
effort_three = refl

too_great_a_demo : row_of (codes "demo" ∷ codes "18446744073709551616" ∷ []) ≡ None
unfolding row_of settings_words number_up_to
too_great_a_demo = refl

greatest : row_of (codes "demo" ∷ codes "18446744073709551615" ∷ []) ≡ Some (Demo 18446744073709551615)
unfolding row_of settings_words number_up_to
greatest = refl

serial_with_hashes : row_of (codes "hash" ∷ codes "serial" ∷ codes "32x32" ∷ codes "0" ∷ codes "1" ∷ codes "o" ∷ codes "f" ∷ []) ≡ Some (Serial (record { settings = record { size = record { w = 32; h = 32 }; effort = 0; key = 1; extra = Hash }; out = codes "o"; file = codes "f" }))
unfolding row_of settings_words number_up_to
serial_with_hashes = refl

record_with_hashes : row_of (codes "hash" ∷ codes "record" ∷ codes "32x32" ∷ codes "2" ∷ codes "0" ∷ codes "1" ∷ codes "o" ∷ codes "f" ∷ codes "g" ∷ []) ≡
    Some (Record (record { settings = record { size = record { w = 32; h = 32 }; effort = 0; key = 1; extra = Hash }; workers = 2; out = codes "o"; files = codes "f" ∷ codes "g" ∷ [] }))
unfolding row_of settings_words number_up_to
record_with_hashes = refl

hash_alone : row_of (codes "hash" ∷ []) ≡ None
unfolding row_of settings_words number_up_to
hash_alone = refl

hash_of_a_stream : row_of (codes "hash" ∷ codes "decode" ∷ codes "i" ∷ codes "o" ∷ []) ≡ None
unfolding row_of settings_words number_up_to
hash_of_a_stream = refl

hash_of_a_demo : row_of (codes "hash" ∷ codes "demo" ∷ codes "1" ∷ []) ≡ None
unfolding row_of settings_words number_up_to
hash_of_a_demo = refl

hash_after_the_command : row_of (codes "serial" ∷ codes "hash" ∷ codes "32x32" ∷ codes "0" ∷ codes "1" ∷ codes "o" ∷ codes "f" ∷ []) ≡ None
unfolding row_of settings_words number_up_to
hash_after_the_command = refl

serial_in_segments : row_of (codes "segments" ∷ codes "serial" ∷ codes "64x64" ∷ codes "0" ∷ codes "1" ∷ codes "o" ∷ codes "f" ∷ []) ≡ Some (Serial (record { settings = record { size = record { w = 64; h = 64 }; effort = 0; key = 1; extra = Segments }; out = codes "o"; file = codes "f" }))
unfolding row_of settings_words number_up_to
serial_in_segments = refl

segments_of_two_units : row_of (codes "segments" ∷ codes "serial" ∷ codes "33x64" ∷ codes "0" ∷ codes "1" ∷ codes "o" ∷ codes "f" ∷ []) ≡ Some (Serial (record { settings = record { size = record { w = 33; h = 64 }; effort = 0; key = 1; extra = Segments }; out = codes "o"; file = codes "f" }))
unfolding row_of settings_words number_up_to
segments_of_two_units = refl

segments_of_one_unit : row_of (codes "segments" ∷ codes "serial" ∷ codes "32x64" ∷ codes "0" ∷ codes "1" ∷ codes "o" ∷ codes "f" ∷ []) ≡ None
unfolding row_of settings_words number_up_to
segments_of_one_unit = refl

segments_of_clients : row_of (codes "segments" ∷ codes "record" ∷ codes "64x64" ∷ codes "1" ∷ codes "0" ∷ codes "1" ∷ codes "o" ∷ codes "f" ∷ []) ≡ None
unfolding row_of settings_words number_up_to
segments_of_clients = refl

segments_alone : row_of (codes "segments" ∷ []) ≡ None
unfolding row_of settings_words number_up_to
segments_alone = refl

serial_with_moves : row_of (codes "moves" ∷ codes "serial" ∷ codes "32x64" ∷ codes "0" ∷ codes "1" ∷ codes "o" ∷ codes "f" ∷ []) ≡ Some (Serial (record { settings = record { size = record { w = 32; h = 64 }; effort = 0; key = 1; extra = Moves }; out = codes "o"; file = codes "f" }))
unfolding row_of settings_words number_up_to
serial_with_moves = refl

moves_of_clients : row_of (codes "moves" ∷ codes "record" ∷ codes "64x64" ∷ codes "1" ∷ codes "0" ∷ codes "1" ∷ codes "o" ∷ codes "f" ∷ []) ≡ None
unfolding row_of settings_words number_up_to
moves_of_clients = refl

moves_alone : row_of (codes "moves" ∷ []) ≡ None
unfolding row_of settings_words number_up_to
moves_alone = refl
