-- Which declarations have a layout that a host shares.
use Rattle.std.specs.Prelude.{Bool, true, false, not, ◌&&◌, ◌||◌, Option, Some, None}
use Rattle.wgsl_rules.specs.Types.{Ty, struct}
use Rattle.wgsl_rules.specs.View.{type_view}
use Rattle.wgsl_rules.specs.declared.syntax.AddressSpace.{AddressSpace}
use Rattle.wgsl_rules.specs.declared.syntax.AddressSpace.TheVariants as spaces
use Rattle.wgsl_source.specs.declared.module.Declared.{Declared}
use Rattle.wgsl_source.specs.declared.module.Declared.TheVariants as declareds
use Rattle.wgsl_eval.specs.declared.answer.Need.{Need}
use Rattle.wgsl_eval.specs.declared.answer.Need.TheVariants as needs
use Rattle.wgsl_eval.specs.declared.answer.Skip.{Skip}
use Rattle.wgsl_eval.specs.declared.declarations.ItemKind.{ItemKind}
use Rattle.wgsl_eval.specs.declared.declarations.ItemKind.TheVariants as kinds
use Rattle.wgsl_eval.specs.declared.variable.Variable.{Variable}

-- variables of the storage and uniform address spaces are shared
abbrev pub is_shared_space : Option AddressSpace → Bool
is_shared_space None = false
is_shared_space (Some spaces.Storage) = true
is_shared_space (Some spaces.Uniform) = true
is_shared_space (Some spaces.Function) = false
is_shared_space (Some spaces.Private) = false
is_shared_space (Some spaces.Workgroup) = false
is_shared_space (Some spaces.Handle) = false

-- and so is immediate data
abbrev pub is_shared : Variable → Bool
is_shared v = is_shared_space v.space || v.is_immediate

abbrev pub is_structure : Ty → Bool
is_structure (struct name fs) = true
is_structure t = false

-- structures and shared variables are laid out
abbrev pub is_laid_out : ItemKind → Bool
is_laid_out (kinds.Struct t) = is_structure (type_view t)
is_laid_out (kinds.Variable v) = is_shared v
is_laid_out (kinds.Alias t) = false
is_laid_out (kinds.Value n) = false
is_laid_out (kinds.Skipped s) = false
is_laid_out kinds.Faulty = false

-- a reason is told of the others, but for those whose fault is told, or why they are skipped
abbrev pub is_left_out : ItemKind → Bool
is_left_out (kinds.Struct t) = false
is_left_out (kinds.Variable v) = not (is_shared v)
is_left_out (kinds.Alias t) = true
is_left_out (kinds.Value n) = true
is_left_out (kinds.Skipped s) = false
is_left_out kinds.Faulty = false

-- why a declaration is skipped, if it is
abbrev pub skip_in : ItemKind → Option Skip
skip_in (kinds.Skipped s) = Some s
skip_in k = None

abbrev pub is_opaque : Need → Bool
is_opaque needs.Opaque = true
is_opaque n = false

abbrev pub is_private : Option AddressSpace → Bool
is_private (Some spaces.Private) = true
is_private s = false

-- a layout is looked for of structures, and of variables outside of private space, but where a texture, a sampler or a
-- pointer is needed, which have none
abbrev pub is_looked_for : Declared → Need → Bool
is_looked_for (declareds.Struct first end) n = not (is_opaque n)
is_looked_for (declareds.Variable v) n = not (is_opaque n) && not (is_private v.space)
is_looked_for d n = false
