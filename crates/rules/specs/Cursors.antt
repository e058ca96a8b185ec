-- What a place of a source is to the rules.
use Rattle.std.specs.Prelude.{ℕ, List, drop}
use Rattle.rules.specs.declared.cursor.Cursor.{Cursor}
use Rattle.rules.specs.Bytes.{behind_at}
use Rattle.rules.specs.Config.{Config, config_of}

-- the settings, as the rules take them
abbrev pub config_at : Cursor → Config
config_at c = config_of c.settings.now

-- the bytes that were read, since the last LF and the newest first
abbrev pub behind : Cursor → List ℕ
behind c = behind_at c.source.now c.offset

-- the bytes to come
abbrev pub ahead : Cursor → List ℕ
ahead c = drop c.offset c.source.now
