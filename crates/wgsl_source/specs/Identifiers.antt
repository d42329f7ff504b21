-- Which words are no names (WGSL: identifiers; keyword summary; reserved words).
use Rattle.std.specs.Borrow.{Bor}
use Rattle.std.specs.Prelude.{ℕ, nat_eq, ◌+◌, ◌==◌, Bool, true, false, ◌||◌, ◌&&◌, Option, IfSome, Some, None, List, [], ◌∷◌, ◌++◌, codes, map, slice_get, if◌then◌else◌}
use Rattle.std.specs.Option.{option_map_or}
use Rattle.std.specs.List.{list_all, list_any, starts_with}
use Rattle.std.specs.Str.{bytes_eq}
use Rattle.wgsl_source.specs.Faults.{IsTold}
use Rattle.wgsl_source.specs.Readings.{word_of, fault_at}
use Rattle.wgsl_source.specs.declared.fault.Fault.{Fault}
use Rattle.wgsl_source.specs.declared.fault.Reason.{Reason}
use Rattle.wgsl_source.specs.declared.fault.Reason.TheVariants as reasons
use Rattle.wgsl_source.specs.declared.module.Extent.{Extent}

-- the keywords
unfoldable pub keywords : List (List ℕ)
keywords =
    codes "alias" ∷ codes "break" ∷ codes "case" ∷ codes "const" ∷ codes "const_assert" ∷ codes "continue" ∷
    codes "continuing" ∷ codes "default" ∷ codes "diagnostic" ∷ codes "discard" ∷ codes "else" ∷
    codes "enable" ∷ codes "false" ∷ codes "fn" ∷ codes "for" ∷ codes "if" ∷ codes "let" ∷ codes "loop" ∷
    codes "override" ∷ codes "requires" ∷ codes "return" ∷ codes "struct" ∷ codes "switch" ∷ codes "true" ∷
    codes "var" ∷ codes "while" ∷ []

-- the reserved words
unfoldable pub reserved_words : List (List ℕ)
reserved_words =
    codes "NULL" ∷ codes "Self" ∷ codes "abstract" ∷ codes "active" ∷ codes "alignas" ∷ codes "alignof" ∷
    codes "as" ∷ codes "asm" ∷ codes "asm_fragment" ∷ codes "async" ∷ codes "attribute" ∷ codes "auto" ∷
    codes "await" ∷ codes "become" ∷ codes "cast" ∷ codes "catch" ∷ codes "class" ∷ codes "co_await" ∷
    codes "co_return" ∷ codes "co_yield" ∷ codes "coherent" ∷ codes "column_major" ∷ codes "common" ∷
    codes "compile" ∷ codes "compile_fragment" ∷ codes "concept" ∷ codes "const_cast" ∷ codes "consteval" ∷
    codes "constexpr" ∷ codes "constinit" ∷ codes "crate" ∷ codes "debugger" ∷ codes "decltype" ∷
    codes "delete" ∷ codes "demote" ∷ codes "demote_to_helper" ∷ codes "do" ∷ codes "dynamic_cast" ∷
    codes "enum" ∷ codes "explicit" ∷ codes "export" ∷ codes "extends" ∷ codes "extern" ∷ codes "external" ∷
    codes "fallthrough" ∷ codes "filter" ∷ codes "final" ∷ codes "finally" ∷ codes "friend" ∷ codes "from" ∷
    codes "fxgroup" ∷ codes "get" ∷ codes "goto" ∷ codes "groupshared" ∷ codes "highp" ∷ codes "impl" ∷
    codes "implements" ∷ codes "import" ∷ codes "inline" ∷ codes "instanceof" ∷ codes "interface" ∷
    codes "layout" ∷ codes "lowp" ∷ codes "macro" ∷ codes "macro_rules" ∷ codes "match" ∷ codes "mediump" ∷
    codes "meta" ∷ codes "mod" ∷ codes "module" ∷ codes "move" ∷ codes "mut" ∷ codes "mutable" ∷
    codes "namespace" ∷ codes "new" ∷ codes "nil" ∷ codes "noexcept" ∷ codes "noinline" ∷
    codes "nointerpolation" ∷ codes "non_coherent" ∷ codes "noncoherent" ∷ codes "noperspective" ∷
    codes "null" ∷ codes "nullptr" ∷ codes "of" ∷ codes "operator" ∷ codes "package" ∷ codes "packoffset" ∷
    codes "partial" ∷ codes "pass" ∷ codes "patch" ∷ codes "pixelfragment" ∷ codes "precise" ∷
    codes "precision" ∷ codes "premerge" ∷ codes "priv" ∷ codes "protected" ∷ codes "pub" ∷ codes "public" ∷
    codes "readonly" ∷ codes "ref" ∷ codes "regardless" ∷ codes "register" ∷ codes "reinterpret_cast" ∷
    codes "require" ∷ codes "resource" ∷ codes "restrict" ∷ codes "self" ∷ codes "set" ∷ codes "shared" ∷
    codes "sizeof" ∷ codes "smooth" ∷ codes "snorm" ∷ codes "static" ∷ codes "static_assert" ∷
    codes "static_cast" ∷ codes "std" ∷ codes "subroutine" ∷ codes "super" ∷ codes "target" ∷ codes "template" ∷
    codes "this" ∷ codes "thread_local" ∷ codes "throw" ∷ codes "trait" ∷ codes "try" ∷ codes "type" ∷
    codes "typedef" ∷ codes "typeid" ∷ codes "typename" ∷ codes "typeof" ∷ codes "union" ∷ codes "unless" ∷
    codes "unorm" ∷ codes "unsafe" ∷ codes "unsized" ∷ codes "use" ∷ codes "using" ∷ codes "varying" ∷
    codes "virtual" ∷ codes "volatile" ∷ codes "wgsl" ∷ codes "where" ∷ codes "with" ∷ codes "writeonly" ∷
    codes "yield" ∷ []

abbrev pub is_one_of : List (List ℕ) → List ℕ → Bool
is_one_of words word = list_any (λ w. bytes_eq w word) words

-- `_`, and what begins with two of it
abbrev pub is_no_identifier : List ℕ → Bool
is_no_identifier word = bytes_eq word (codes "_") || starts_with nat_eq word (codes "__")

-- why nothing that a module declares has this name
abbrev pub why_no_name : List ℕ → Option Reason
why_no_name word =
    if is_one_of keywords word then Some reasons.Keyword
    else if is_one_of reserved_words word then Some reasons.Reserved
    else if is_no_identifier word then Some reasons.NoIdentifier
    else None

-- where the token of this number is no name, it is told
abbrev pub IsNameOrTold : List ℕ → List Extent → List Fault → ℕ → Type 0
IsNameOrTold text tokens faults token =
    IfSome (why_no_name (word_of text tokens token)) (λ reason. IsTold faults (fault_at text tokens token reason))

-- ---- words in groups

abbrev pub Group : Type 0
Group = Bor (List (Bor (List ℕ)))

-- the groups one behind the other
abbrev pub words_in : List Group → List (List ℕ)
words_in [] = []
words_in (group ∷ groups) = map (λ w. w.now) group.now ++ words_in groups

abbrev pub begins_with : ℕ → List ℕ → Bool
begins_with letter [] = false
begins_with letter (first ∷ rest) = first == letter

-- whether the words of the first group begin with this letter, and those of each further one with the next letter
abbrev pub are_grouped : ℕ → List Group → Bool
are_grouped letter [] = true
are_grouped letter (group ∷ groups) = list_all (λ w. begins_with letter w.now) group.now && are_grouped (letter + 1) groups

-- whether it is a word of the group of this number
abbrev pub is_in_group : List Group → ℕ → List ℕ → Bool
is_in_group groups number word =
    option_map_or (λ group. list_any (λ known. bytes_eq known.now word) group.now) (slice_get groups number) false
