pub mod BitFields
