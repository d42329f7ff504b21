-- Which type it is whose records are asked for by a text.
use Rattle.std.specs.Prelude.{◌≡◌, ◌⊎◌, ◌-◌, ℕ, List, Some, Contains, length, slice_get, string_bytes, ⊤}
use Rattle.wgsl_rules.specs.Types.{Ty}
use Rattle.wgsl_rules.specs.View.{type_view}
use Rattle.wgsl_nodes.specs.Nodes.{IsNodeOf}
use Rattle.wgsl_nodes.specs.Tables.{IsTable}
use Rattle.wgsl_nodes.specs.declared.nodes.Node.{Node}
use Rattle.wgsl_source.specs.Readings.{Outline}
use Rattle.wgsl_eval.specs.Evaluated.{AreDeclarationsWith}
use Rattle.wgsl_eval.specs.declared.declarations.Declarations.{Declarations}
use Rattle.wgsl_eval.specs.declared.declarations.Item.{Item}
use Rattle.wgsl_eval.specs.declared.declarations.ItemKind.{ItemKind}
use Rattle.wgsl_eval.specs.declared.declarations.ItemKind.TheVariants as items
use Rattle.wgsl_eval.specs.declared.given.Given.{Given}
use Rattle.wgsl_eval.specs.declared.settings.Settings.{Settings}
use Rattle.wgsl_report.specs.Scopes.{IsReadingOf, with_alias}
use Rattle.wgsl_report.specs.declared.records.Found.{Found}
use Rattle.wgsl_report.specs.declared.records.Found.TheVariants as founds

-- a variable of the type
abbrev pub IsOfVariable : Ty → ItemKind → Type 0
IsOfVariable t (items.Variable v) = type_view v.ty ≡ t
IsOfVariable t kind = ⊥

-- a name of the type
abbrev pub IsOfName : Ty → ItemKind → Type 0
IsOfName t (items.Struct ty) = type_view ty ≡ t
IsOfName t (items.Alias ty) = type_view ty ≡ t
IsOfName t kind = ⊥

-- one of the declarations is a variable of this name and of the type
pub record IsVariable (name : List ℕ) (t : Ty) (declared : List Item) : Type 0 where
  pub item : Item
  pub there : Contains declared item
  pub named : string_bytes item.name ≡ name
  pub typed : IsOfVariable t item.kind

-- the last of the declarations has this name, which is one of the type
pub record IsLast (name : List ℕ) (t : Ty) (declared : List Item) : Type 0 where
  pub item : Item
  pub there : slice_get declared (length declared - 1) ≡ Some item
  pub named : string_bytes item.name ≡ name
  pub typed : IsOfName t item.kind

-- the type, where one is found
abbrev pub IfType : Found → (Ty → Type 0) → Type 0
IfType (founds.Type ty) P = P (type_view ty.now)
IfType found P = ⊤

-- the records are the layout of the type, and a table
abbrev pub IsLayoutOf : Ty → List Node → Type 0
IsLayoutOf t nodes = IsNodeOf nodes 0 t × IsTable nodes

-- of the type that was found
abbrev pub AreNodesOf : Found → List Node → Type 0
AreNodesOf (founds.Type ty) nodes = IsLayoutOf (type_view ty.now) nodes
AreNodesOf found nodes = ⊥

-- of the declarations of a module: the type of a variable that the text names, or else the type that the text is, for which
-- the last of the declarations is a name; where the module has that name already, it is that of no type
pub record IsTypeOf (source text : List ℕ) (settings : Settings) (t : Ty) : Type 0 where
  pub name : List ℕ
  pub outline : Outline
  pub reads : IsReadingOf (with_alias source name text) outline
  pub given : List Given
  pub found : Declarations
  pub declared : AreDeclarationsWith outline given settings found
  pub is : IsVariable text t found.items.items ⊎ IsLast name t found.items.items
