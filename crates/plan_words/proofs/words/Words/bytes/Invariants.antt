use Rattle.std.proofs.Common.{length}
use Rattle.std.specs.Iterator.Adapters.{items_left_with_peeked, peekable_peeked, peekable_source}
use Rattle.std.specs.Slice.Iter.{iter_rest}
use Rattle.plan_words.proofs.words.Words.bytes.Given as goal

abbrev pub decreases-loop-word : goal.decreases-loop-word
decreases-loop-word l = items_left_with_peeked (peekable_peeked l.self.left) (length (iter_rest (peekable_source l.self.left)))
