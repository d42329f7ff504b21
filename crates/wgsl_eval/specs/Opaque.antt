-- The names of types whose values are no constants (WGSL: memory view types; texture and sampler types).
use Rattle.std.specs.Prelude.{ℕ, Bool, ◌||◌, List, [], ◌∷◌, codes}
use Rattle.wgsl_functions.specs.Names.{is_among}

-- WGSL: sampler types
abbrev pub sampler_names : List (List ℕ)
sampler_names = codes "sampler" ∷ codes "sampler_comparison" ∷ []

-- WGSL: sampled texture types; multisampled, external and depth texture types
abbrev pub sampled_names : List (List ℕ)
sampled_names =
    codes "texture_1d" ∷ codes "texture_2d" ∷ codes "texture_2d_array" ∷ codes "texture_3d" ∷ codes "texture_cube" ∷ codes "texture_cube_array" ∷ codes "texture_multisampled_2d" ∷ codes "texture_depth_2d" ∷ codes "texture_depth_2d_array" ∷ codes "texture_depth_cube" ∷ codes "texture_depth_cube_array" ∷ codes "texture_depth_multisampled_2d" ∷ codes "texture_external" ∷ []

-- WGSL: storage texture types
abbrev pub storage_names : List (List ℕ)
storage_names =
    codes "texture_storage_1d" ∷ codes "texture_storage_2d" ∷ codes "texture_storage_2d_array" ∷ codes "texture_storage_3d" ∷ []

-- WGSL: reference and pointer types; address spaces; memory access modes
abbrev pub memory_names : List (List ℕ)
memory_names =
    codes "ptr" ∷ codes "function" ∷ codes "private" ∷ codes "workgroup" ∷ codes "uniform" ∷ codes "storage" ∷ codes "read" ∷ codes "write" ∷ codes "read_write" ∷ []

-- WGSL: texel formats, those of integers and of floats
abbrev pub number_formats : List (List ℕ)
number_formats =
    codes "rgba8uint" ∷ codes "rgba8sint" ∷ codes "rgba16uint" ∷ codes "rgba16sint" ∷ codes "rgba16float" ∷ codes "rg8uint" ∷ codes "rg8sint" ∷ codes "rg16uint" ∷ codes "rg16sint" ∷ codes "rg16float" ∷ codes "r8uint" ∷ codes "r8sint" ∷ codes "r16uint" ∷ codes "r16sint" ∷ codes "r16float" ∷ codes "r32uint" ∷ codes "r32sint" ∷ codes "r32float" ∷ codes "rg32uint" ∷ codes "rg32sint" ∷ codes "rg32float" ∷ codes "rgba32uint" ∷ codes "rgba32sint" ∷ codes "rgba32float" ∷ codes "rgb10a2uint" ∷ codes "rg11b10ufloat" ∷ []

-- WGSL: texel formats, those of normalized integers
abbrev pub norm_formats : List (List ℕ)
norm_formats =
    codes "rgba8unorm" ∷ codes "rgba8snorm" ∷ codes "rgba16unorm" ∷ codes "rgba16snorm" ∷ codes "rg8unorm" ∷ codes "rg8snorm" ∷ codes "rg16unorm" ∷ codes "rg16snorm" ∷ codes "r8unorm" ∷ codes "r8snorm" ∷ codes "r16unorm" ∷ codes "r16snorm" ∷ codes "bgra8unorm" ∷ codes "rgb10a2unorm" ∷ []

-- types of extensions of the language
abbrev pub extension_names : List (List ℕ)
extension_names = codes "binding_array" ∷ codes "acceleration_structure" ∷ codes "ray_query" ∷ []

-- a name of such a type, or of what stands in the template list of one
abbrev pub is_opaque : List ℕ → Bool
is_opaque name =
    is_among sampler_names name || (is_among sampled_names name || (is_among storage_names name || (is_among memory_names name || (is_among number_formats name || (is_among norm_formats name || is_among extension_names name)))))
