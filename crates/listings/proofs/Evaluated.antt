-- The examples, by one evaluation.
use Rattle.std.proofs.Common.{refl}
use lib.Utf8.{encode}
use Rattle.std.specs.Fmt.{digits}
use Rattle.byte_search.specs.Search.{stands_at, is_in, first_in, distance_to}
use Rattle.finder.specs.Finding.{blank_line, longest, found}
use Rattle.utf8.specs.Utf8.{table, fits, width_by, prefix_after, characters_after}
use Rattle.spaces.specs.Lines.{blank_run}
use Rattle.spaces.specs.Runs.{run_after, kept}
use Rattle.spaces.specs.Spaces.{in_ranges}
use Rattle.escape.specs.Escapes.{meant, hex_value, hex_from, octal_from, unescaped_from}
use Rattle.places.specs.Places.{beyond}
use Rattle.rules.specs.Bytes.{run, pushes, line_before, last_is}
use Rattle.rules.specs.Numbers.{scan, value_from, number}
use Rattle.rules.specs.Strings.{quote_end, string}
use Rattle.rules.specs.Tags.{first_standing, literal, close, tag_verdict}
use Rattle.rules.specs.Texts.{lead, basic_tag, closer_at, find_closer, raw_body, comment, line_comment_here, opened, text, text_verdict}
use Rattle.rules.specs.Reading.{reading, meaning, chop}
use Rattle.rules.specs.Told.{pieces, behind}
use Rattle.listings.specs.Rows.{joined}
use Rattle.listings.specs.Listing.{lines}
use Rattle.listings.specs.Examples.{heard, ExamplesHold}

pub examples_hold : ExamplesHold
unfolding encode digits stands_at is_in first_in distance_to blank_line longest found table fits width_by prefix_after characters_after blank_run run_after kept in_ranges meant hex_value hex_from octal_from unescaped_from beyond run pushes line_before last_is scan value_from number quote_end string first_standing literal close tag_verdict lead basic_tag closer_at find_closer raw_body comment line_comment_here opened text text_verdict reading meaning chop pieces behind joined lines heard
examples_hold = refl
