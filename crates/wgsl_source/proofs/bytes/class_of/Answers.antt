-- The table is held against the definition at each of the 256 bytes, by computing.
use lib.Utf8.{encode}
use Rattle.std.proofs.Common.{◌≡◌, ℕ, ◌+◌, ◌<◌, zero, suc, List, [], ◌∷◌, get_or, refl, ◌∙◌, ap, arith}
use Rattle.wgsl_source.specs.Bytes.{class_of}
use Rattle.wgsl_source.specs.declared.bytes.Class.{Class}
use Rattle.wgsl_source.specs.declared.bytes.Class.TheVariants.{Letter}
use Rattle.wgsl_source.specs.declared.bytes.TheConstants.{CLASSES}
use Rattle.wgsl_source.proofs.bytes.class_of.Goals as goal

-- the classes of so many bytes from one on
classes_from : ℕ → ℕ → List Class
classes_from first zero = []
classes_from first (suc n) = class_of first ∷ classes_from (first + 1) n

class_at : (first n k byte : ℕ) → k < n → byte ≡ first + k → get_or (classes_from first n) k Letter ≡ class_of byte
unfolding classes_from
class_at first zero k byte h e = absurd (omega arith)
class_at first (suc n) zero byte h e =
    let same : first ≡ byte = omega arith in
    ap class_of same
class_at first (suc n) (suc k) byte h e = class_at (first + 1) n k byte (omega arith) (omega arith)

table : CLASSES ≡ classes_from 0 256
unfolding classes_from encode
table = refl

pub returns : goal.returns
returns c = ap (λ t. get_or t c.args.byte Letter) table ∙ class_at 0 256 c.args.byte c.args.byte (omega arith) (omega arith)
