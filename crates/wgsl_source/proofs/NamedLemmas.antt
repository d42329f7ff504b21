-- The first declaration with a name, of one declaration more.
use lib.Pointwise.{bytes_decides}
use Rattle.std.proofs.Common.{◌≡◌, ℕ, ◌+◌, ◌<◌, nat_lt, Bool, true, false, cond, Option, Some, None, is_some, IsSome, List, [], ◌∷◌, ◌++◌, length, take, get_or, refl, ◌∙◌, ap, sym, subst, arith}
use Rattle.std.proofs.lemmas.Grind.{common_steps}
use Rattle.std.proofs.lemmas.List.{take_more}
use Rattle.std.specs.List.{position_or_len}
use Rattle.std.specs.Str.{bytes_eq}
use Rattle.wgsl_source.specs.Cursors.{text_of}
use Rattle.wgsl_source.specs.Declarations.{number_named}
use Rattle.wgsl_source.specs.declared.cursor.Cursor.{Cursor}
use Rattle.wgsl_source.specs.declared.declaration.Declaration.{Declaration}
use Rattle.wgsl_source.proofs.Positions.{position-push}

-- the first, where there is one, else the second
abbrev pub first_some : Option ℕ → Option ℕ → Option ℕ
first_some None y = y
first_some (Some x) y = Some x

pub first_some-cond : (b : Bool) (n : ℕ) (y : Option ℕ) → cond b (Some n) y ≡ first_some (cond b (Some n) None) y
first_some-cond true n y = refl
first_some-cond false n y = refl

pub first_some-added : (b : Bool) (old : Option ℕ) (n : ℕ) → (b ≡ true → old ≡ None) → cond b (Some n) old ≡ first_some old (cond b (Some n) None)
first_some-added true None n none = refl
first_some-added true (Some x) n none = absurd (cc (none refl))
first_some-added false None n none = refl
first_some-added false (Some x) n none = refl

pub first_some-kept : (b : Bool) (old : Option ℕ) (n : ℕ) → (b ≡ true → IsSome old) → old ≡ first_some old (cond b (Some n) None)
first_some-kept true None n some = absurd (cc (some refl))
first_some-kept true (Some x) n some = refl
first_some-kept false None n some = refl
first_some-kept false (Some x) n some = refl

pub number_named-push : (c : Cursor) (ds : List Declaration) (d : Declaration) (name : List ℕ) → number_named c (ds ++ (d ∷ [])) name ≡ first_some (number_named c ds name) (cond (bytes_eq (text_of c d.name) name) (Some (length ds)) None)
number_named-push c ds d name =
    let p : Declaration → Bool = λ e. bytes_eq (text_of c e.name) name in
    position-push p ds d ∙ first_some-cond (nat_lt (position_or_len p ds) (length ds)) (position_or_len p ds) (cond (p d) (Some (length ds)) None)

-- numbers of names, with that of a name that had none
pub number_named-added : (c : Cursor) (ds : List Declaration) (d : Declaration) (get after : List ℕ → Option ℕ) → ((name : List ℕ) → get name ≡ number_named c ds name) → get (text_of c d.name) ≡ None → ((name : List ℕ) → after name ≡ cond (bytes_eq (text_of c d.name) name) (Some (length ds)) (get name)) → (name : List ℕ) → after name ≡ number_named c (ds ++ (d ∷ [])) name
number_named-added c ds d get after was none is name =
    let free : bytes_eq (text_of c d.name) name ≡ true → number_named c ds name ≡ None = λ e.
    let same : text_of c d.name ≡ name = (bytes_decides (text_of c d.name) name).0 e in
    sym (was name) ∙ ap get (sym same) ∙ none in
    is name ∙ ap (λ x. cond (bytes_eq (text_of c d.name) name) (Some (length ds)) x) (was name)
    ∙ first_some-added (bytes_eq (text_of c d.name) name) (number_named c ds name) (length ds) free
    ∙ sym (number_named-push c ds d name)

-- and with a name that had one
pub number_named-kept : (c : Cursor) (ds : List Declaration) (d : Declaration) (get : List ℕ → Option ℕ) → ((name : List ℕ) → get name ≡ number_named c ds name) → IsSome (get (text_of c d.name)) → (name : List ℕ) → get name ≡ number_named c (ds ++ (d ∷ [])) name
number_named-kept c ds d get was some name =
    let taken : bytes_eq (text_of c d.name) name ≡ true → IsSome (number_named c ds name) = λ e.
    let same : text_of c d.name ≡ name = (bytes_decides (text_of c d.name) name).0 e in
    subst IsSome (ap get same ∙ was name) some in
    was name ∙ first_some-kept (bytes_eq (text_of c d.name) name) (number_named c ds name) (length ds) taken ∙ sym (number_named-push c ds d name)

-- ---- the declaration at k, of those in ds

pub number_named-next : (c : Cursor) (ds items : List Declaration) (k : ℕ) (d : Declaration) → items ≡ ds → k < length items → (name : List ℕ) → number_named c (take k ds ++ (get_or items k d ∷ [])) name ≡ number_named c (take (k + 1) ds) name
number_named-next c ds items k d same within name =
    let more : take (k + 1) ds ≡ take k ds ++ (get_or ds k d ∷ []) = take_more ds k d (omega (arith, within, ap length same)) in
    ap (λ xs. number_named c (take k ds ++ (get_or xs k d ∷ [])) name) same ∙ ap (λ xs. number_named c xs name) (sym more)

pub names-kept : (c : Cursor) (ds items : List Declaration) (k : ℕ) (d : Declaration) (get : List ℕ → Option ℕ) (bs : List ℕ) → items ≡ ds → bs ≡ text_of c (get_or items k d).name → k < length items → ((name : List ℕ) → get name ≡ number_named c (take k ds) name) → IsSome (get bs) → (name : List ℕ) → get name ≡ number_named c (take (k + 1) ds) name
names-kept c ds items k d get bs same text within was some name =
    let P : List ℕ → Type 0 = λ t. IsSome (get t) in
    number_named-kept c (take k ds) (get_or items k d) get was (subst P text some) name ∙ number_named-next c ds items k d same within name

pub none_of : (o : Option ℕ) → is_some o ≡ false → o ≡ None
none_of None e = refl
none_of (Some x) e = absurd (cc e)

pub names-added : (c : Cursor) (ds items : List Declaration) (k : ℕ) (d : Declaration) (get after : List ℕ → Option ℕ) (bs : List ℕ) → items ≡ ds → bs ≡ text_of c (get_or items k d).name → k < length items → ((name : List ℕ) → get name ≡ number_named c (take k ds) name) → get bs ≡ None → ((name : List ℕ) → after name ≡ cond (bytes_eq bs name) (Some k) (get name)) → (name : List ℕ) → after name ≡ number_named c (take (k + 1) ds) name
names-added c ds items k d get after bs same text within was none is name =
    let short : length (take k ds) ≡ k = grind (arith, common_steps, ap length same) in
    let P : List ℕ → Type 0 = λ t. get t ≡ None in
    let added : (q : List ℕ) → after q ≡ cond (bytes_eq (text_of c (get_or items k d).name) q) (Some (length (take k ds))) (get q) = λ q.
    is q ∙ ap (λ t. cond (bytes_eq t q) (Some k) (get q)) text ∙ ap (λ n. cond (bytes_eq (text_of c (get_or items k d).name) q) (Some n) (get q)) (sym short) in
    number_named-added c (take k ds) (get_or items k d) get after was (subst P text none) added name ∙ number_named-next c ds items k d same within name
