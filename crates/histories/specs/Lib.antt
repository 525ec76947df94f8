-- Every list of calls on a set: document 01, "Triangles and calls", and demand 3. Definitions only.
pub mod Panel
pub mod Lists
pub mod ByContract
pub mod Since
pub mod Defined
pub mod EveryList
pub mod BuiltIn
pub mod Results
pub mod Consequences
pub mod SineArguments
