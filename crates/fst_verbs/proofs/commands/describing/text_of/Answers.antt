use Rattle.std.proofs.Common.{[]}
use Rattle.fst_verbs.specs.Descriptions.{info_lines}
use Rattle.fst_verbs.proofs.Describing.{followed-concat}
use Rattle.fst_verbs.proofs.commands.describing.text_of.Goals as goal

-- the calls from the last to the first
pub returns : goal.returns
returns c = rw (c.into_bytes.ensures.value, c.in_ok-add_answer-4.ensures, c.in_ok-add_answer-3.ensures, c.in_ok-add_answer-2.ensures, c.in_ok-add_answer.ensures, c.in_ok-add_number-9.ensures, c.in_ok-add_number-8.ensures, c.in_ok-add_number-7.ensures, c.in_ok-add_number-6.ensures, c.in_ok-add_number-5.ensures, c.in_ok-add_number-4.ensures, c.in_ok-add_number-3.ensures, c.in_ok-add_start.ensures, c.in_ok-add_number-2.ensures, c.in_ok-add_number.ensures, c.in_ok-add_type.ensures, c.new-text.ensures.bytes) (followed-concat [] (info_lines c.args.info.now))
