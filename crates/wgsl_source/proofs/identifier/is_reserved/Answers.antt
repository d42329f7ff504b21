use Rattle.std.proofs.Common.{codes, drop}
use Rattle.std.specs.Str.{bytes_eq}
use Rattle.wgsl_source.specs.Identifiers.{is_one_of, reserved_words}
use Rattle.wgsl_source.proofs.GroupLemmas.{one_of_two, none_of_two}
use Rattle.wgsl_source.proofs.identifier.is_reserved.Goals as goal

pub returns-then-is_one_of : goal.returns-then-is_one_of
unfolding reserved_words
returns-then-is_one_of c =
    let word = c.args.word.now in
    one_of_two c.is_one_of.result (bytes_eq (codes "NULL") word) (bytes_eq (codes "Self") word) (is_one_of (drop 2 reserved_words) word) c.if-is_one_of.true c.is_one_of.ensures

pub returns-else-is_one_of : goal.returns-else-is_one_of
unfolding reserved_words
returns-else-is_one_of c =
    let word = c.args.word.now in
    none_of_two c.is_one_of.result (bytes_eq (codes "NULL") word) (bytes_eq (codes "Self") word) (is_one_of (drop 2 reserved_words) word) c.is_in.result c.if-is_one_of.false c.is_one_of.ensures c.is_in.ensures
