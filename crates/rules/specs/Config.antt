-- What the rules of reading take from settings.
use Rattle.std.specs.Prelude.{ℕ, ◌<◌, Bool, false, List, length, codes}
use Rattle.spaces.specs.declared.CodeRange.{CodeRange}
use Rattle.spaces.specs.Spaces.{white_space, in_ranges, in_line}
use Rattle.syntax.specs.declared.settings.Settings.{Settings}
use Rattle.syntax.specs.declared.name.DelimiterName.TheVariants.{BlockStart, BlockEnd, VariableEnd, CommentEnd}
use Rattle.syntax.specs.Openings.{setting_of}

-- the delimiters but for the openings, which a finder means; the flags; and the code points that are White_Space
pub record Config : Type 0 where
  pub block_start : List ℕ
  pub block_end : List ℕ
  pub variable_end : List ℕ
  pub comment_end : List ℕ
  pub keep_trailing : Bool
  pub lstrip_blocks : Bool
  pub trim_blocks : Bool
  pub spaces : List CodeRange

-- of settings
abbrev pub config_of : Settings → Config
config_of s = record {
  block_start = setting_of s BlockStart;
  block_end = setting_of s BlockEnd;
  variable_end = setting_of s VariableEnd;
  comment_end = setting_of s CommentEnd;
  keep_trailing = s.whitespace.keep_trailing_newline;
  lstrip_blocks = s.whitespace.lstrip_blocks;
  trim_blocks = s.whitespace.trim_blocks;
  spaces = white_space;
}

-- the default delimiters, every flag off
abbrev pub default_config : Config
default_config = record {
  block_start = codes "{%";
  block_end = codes "%}";
  variable_end = codes "}}";
  comment_end = codes "#}";
  keep_trailing = false;
  lstrip_blocks = false;
  trim_blocks = false;
  spaces = white_space;
}

-- the code point is White_Space
abbrev pub white : Config → ℕ → Bool
white s c = in_ranges s.spaces c

-- the code point is White_Space other than CR and LF
abbrev pub inline_white : Config → ℕ → Bool
inline_white s c = in_line s.spaces c

-- the ends of tags have bytes, as those of settings do
pub record Ended (s : Config) : Type 0 where
  pub variable : 0 < length s.variable_end
  pub block : 0 < length s.block_end
