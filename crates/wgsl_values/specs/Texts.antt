-- The texts of values and views, in the notation of WGSL.
use Rattle.std.specs.Prelude.{ℕ, Bool, true, false, List, [], ◌∷◌, ◌++◌, codes, decimal}
use Rattle.wgsl_rules.specs.Text.{type_text}
use Rattle.wgsl_rules.specs.Values.{Step, member, index, Val, truth, number, record_of, array_of, vector, matrix, atomic_of, pointer, reference, deferred, Vals, no_vals, val, count, type_of}
use Rattle.wgsl_scalar.specs.Texts.{literal_text}
use Rattle.wgsl_values.specs.Matrices.{row_count}

-- the type of a literal, which is what an atomic holds (WGSL: scalar types); empty for the other
-- values
abbrev pub literal_type_text : Val → List ℕ
literal_type_text (truth b) = type_text (type_of (truth b))
literal_type_text (number k z) = type_text (type_of (number k z))
literal_type_text v = []

abbrev mutual
  -- a literal, or the expression that builds the value (WGSL: literals; value constructors); of a
  -- pointer or a reference its type
  pub text_of_value : Val → List ℕ
  text_of_value (truth b) = literal_text (truth b)
  text_of_value (number k z) = literal_text (number k z)
  text_of_value (record_of t vs) = type_text t ++ (codes "(" ++ (text_of_items vs ++ codes ")"))
  text_of_value (array_of runtime vs) = codes "array(" ++ (text_of_items vs ++ codes ")")
  text_of_value (vector vs) = codes "vec" ++ (decimal (count vs) ++ (codes "(" ++ (text_of_items vs ++ codes ")")))
  text_of_value (matrix vs) = codes "mat" ++ (decimal (count vs) ++ (codes "x" ++ (decimal (row_count vs) ++ (codes "(" ++ (text_of_items vs ++ codes ")")))))
  text_of_value (atomic_of v) = codes "atomic<" ++ (literal_type_text v ++ (codes ">(" ++ (literal_text v ++ codes ")")))
  text_of_value (pointer r) = type_text (type_of (pointer r))
  text_of_value (reference r) = type_text (type_of (reference r))
  text_of_value (deferred t) = codes "__deferred<" ++ (type_text t ++ codes ">")

  -- the arguments of a value constructor, joined by a comma and a space
  pub text_of_items : Vals → List ℕ
  text_of_items no_vals = []
  text_of_items (val v vs) = text_of_value v ++ text_of_more_items vs

  -- those behind the first, each behind its comma
  pub text_of_more_items : Vals → List ℕ
  text_of_more_items no_vals = []
  text_of_more_items (val v vs) = codes ", " ++ (text_of_value v ++ text_of_more_items vs)

-- what stands before an item
abbrev pub text_before_item : Bool → List ℕ
text_before_item true = []
text_before_item false = codes ", "

-- a colon, and the name of the member or the index of the part, for each step
abbrev pub text_of_steps : List Step → List ℕ
text_of_steps [] = []
text_of_steps (member name ∷ steps) = codes ":" ++ (name ++ text_of_steps steps)
text_of_steps (index i ∷ steps) = codes ":" ++ (decimal i ++ text_of_steps steps)
