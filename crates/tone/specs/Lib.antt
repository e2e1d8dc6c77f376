pub mod Algebra
pub mod Colour
pub mod Grey
pub mod Laws
pub mod Pair
pub mod Sums
pub mod GreyLaws
pub mod SameGrey
