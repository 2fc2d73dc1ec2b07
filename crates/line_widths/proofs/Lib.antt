mod Decided
mod Spaced
mod Found
mod UnitLines
mod AtLine
mod OnLines
mod OnPaths
mod Wide
