-- What is written is read back.
use Rattle.std.specs.Prelude.{◌≡◌, ℕ, List, Ok}
use Rattle.recorder_model.specs.Script.{script_of, script_text, version_of}
use Rattle.recorder_model.specs.declared.line.Line.{Line}
use Rattle.paint_script.specs.Spellable.{IsVersion, AreSpellable, AreOfVersion}

-- a text is read as these lines, of this version
pub record IsReadAs (text : List ℕ) (version : ℕ) (lines : List Line) : Type 0 where
  pub has_version : version_of text ≡ version
  pub has_lines : script_of text ≡ Ok lines

-- the one spelling of lines that the grammar of a version can spell is read as these lines, of this version
abbrev pub EachScriptIsReadBack : Type 0
EachScriptIsReadBack = (version : ℕ) (lines : List Line) → IsVersion version → AreSpellable lines → AreOfVersion version lines
    → IsReadAs (script_text version lines) version lines
