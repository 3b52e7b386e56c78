pub mod Resolving
pub use Rattle.ls_resolve.specs.Resolving.{Resolves, ResolvesInMemory}
