-- The words behind `serial`, `record` and `decode`, as the definitions see them.
use Rattle.command_line.specs.Words as words
use Rattle.command_line.specs.declared.row.SerialWords.{SerialWords}
use Rattle.command_line.specs.declared.row.RecordWords.{RecordWords}
use Rattle.command_line.specs.declared.row.DecodeWords.{DecodeWords}
use Rattle.command_line.specs.Views.{settings_view, texts}

abbrev pub serial_view : SerialWords → words.SerialWords
serial_view s = record { settings = settings_view s.settings; out = s.out.now; file = s.file.now }

abbrev pub record_view : RecordWords → words.RecordWords
record_view r = record { settings = settings_view r.settings; workers = r.workers; out = r.out.now; files = texts r.files.now }

abbrev pub decode_view : DecodeWords → words.DecodeWords
decode_view d = record { input = d.input.now; out = d.out.now }
