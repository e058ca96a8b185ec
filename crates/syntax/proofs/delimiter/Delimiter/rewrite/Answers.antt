use Rattle.utf8.proofs.Laws.{utf8_whole}
use Rattle.syntax.proofs.Texts.{text_front}
use Rattle.syntax.proofs.delimiter.Delimiter.rewrite.Goals as goal

pub invariant_of-self-clause-text : goal.invariant_of-self-clause-text
invariant_of-self-clause-text c = text_front c.copy_from_slice.new.self c.args.bytes.now _ c.copy_from_slice.ensures.after (utf8_whole c.args.bytes.now c.requires.text)
