-- The default settings.
use Rattle.std.proofs.Common.{◌≡◌, ap, ◌∙◌}
use Rattle.spaces.specs.Spaces.{white_space}
use Rattle.syntax.specs.declared.name.DelimiterName.{DelimiterName}
use Rattle.syntax.specs.declared.name.DelimiterName.TheVariants.{BlockStart, BlockEnd, VariableEnd, CommentEnd}
use Rattle.syntax.specs.declared.settings.Settings.{Settings}
use Rattle.syntax.specs.declared.whitespace.WhitespaceConfig.{WhitespaceConfig}
use Rattle.syntax.specs.Building.{Table}
use Rattle.syntax.specs.Drafts.{defaults, all_off}
use Rattle.syntax.specs.Openings.{setting_of}
use Rattle.syntax.proofs.Defaults.{same_tables}
use Rattle.rules.specs.Config.{Config, config_of, default_config}

-- what the rules take from a table and flags
config_by : Table → WhitespaceConfig → Config
config_by t w = record {
  block_start = t BlockStart;
  block_end = t BlockEnd;
  variable_end = t VariableEnd;
  comment_end = t CommentEnd;
  keep_trailing = w.keep_trailing_newline;
  lstrip_blocks = w.lstrip_blocks;
  trim_blocks = w.trim_blocks;
  spaces = white_space;
}

-- settings of the default delimiters with every flag off are the default ones to the rules
pub defaults_config : (s : Settings) → ((n : DelimiterName) → setting_of s n ≡ defaults n) → s.whitespace ≡ all_off → config_of s ≡ default_config
unfolding config_by
defaults_config s h e = ap (λ t. config_by t s.whitespace) (same_tables (setting_of s) defaults h) ∙ ap (config_by defaults) e
