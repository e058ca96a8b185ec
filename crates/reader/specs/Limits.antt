-- The limit of templates.
use Rattle.std.specs.Prelude.{ℕ}

-- the greatest number of bytes that a template may have
abbrev pub max_len : ℕ
max_len = 16777216
