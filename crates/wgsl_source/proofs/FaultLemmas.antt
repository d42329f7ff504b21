-- What was told is told.
use Rattle.std.proofs.Common.{All, ℕ, ◌+◌, ◌<◌, List, length, take, get_or, arith}
use Rattle.std.proofs.lemmas.List.Elements.{All-weaker, All-more}
use Rattle.std.proofs.lemmas.List.Sorted.{Contains-permutation, length_permutation}
use Rattle.std.specs.List.Sorted.{IsPermutation}
use Rattle.wgsl_source.specs.Blanks.{IsCovered}
use Rattle.wgsl_source.specs.Faults.{KeepsFaults, IsTold}
use Rattle.wgsl_source.specs.declared.fault.Fault.{Fault}
use Rattle.wgsl_source.specs.declared.module.Extent.{Extent}

pub kept_then : (xs ys zs : List Fault) → KeepsFaults xs ys → KeepsFaults ys zs → KeepsFaults xs zs
kept_then xs ys zs a b = (omega (arith, a.0, b.0), λ fault h. b.1 fault (a.1 fault h))

pub told_then : (xs ys : List Fault) (fault : Fault) → KeepsFaults xs ys → IsTold xs fault → IsTold ys fault
told_then xs ys fault kept told = λ few. kept.1 fault (told (omega (arith, few, kept.0)))

pub permuted : (xs ys : List Fault) → IsPermutation xs ys → KeepsFaults xs ys
permuted xs ys moved = (omega (arith, length_permutation xs ys moved), λ fault. Contains-permutation xs ys fault moved)

-- over three calls and the sort
pub kept_to_end : (xs ys zs us vs : List Fault) → KeepsFaults xs ys → KeepsFaults ys zs → KeepsFaults zs us → IsPermutation us vs → KeepsFaults xs vs
kept_to_end xs ys zs us vs a b c moved = kept_then xs ys vs a (kept_then ys zs vs b (kept_then zs us vs c (permuted us vs moved)))

told_all : (xs ys fs : List Fault) → KeepsFaults xs ys → All (IsTold xs) fs → All (IsTold ys) fs
told_all xs ys fs kept told = All-weaker (IsTold xs) (IsTold ys) (λ fault. told_then xs ys fault kept) fs told

pub one_told_more : (xs ys fs : List Fault) (i : ℕ) (d : Fault) → KeepsFaults xs ys → i < length fs → All (IsTold xs) (take i fs) → IsTold ys (get_or fs i d) → All (IsTold ys) (take (i + 1) fs)
one_told_more xs ys fs i d kept within told here = All-more (IsTold ys) fs i d within (told_all xs ys (take i fs) kept told) here

pub covered_then : (text : List ℕ) (tokens : List Extent) (xs ys : List Fault) → KeepsFaults xs ys → IsCovered text tokens xs → IsCovered text tokens ys
covered_then text tokens xs ys kept (faults, cut, told) = (faults, cut, told_all xs ys faults kept told)
