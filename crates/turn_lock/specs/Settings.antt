-- The setting of a turn without clients.
use Rattle.std.specs.Prelude.{[]}
use Rattle.recorder_model.specs.Setting.{Setting}

abbrev pub no_setting : Setting
no_setting = record { size = record { w = 0; h = 0 }; scripts = [] }
