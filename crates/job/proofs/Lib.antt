pub mod AnyDrawing
pub mod Around
pub mod Attempts
pub mod Barons
pub mod Bounded
pub mod Counted
pub mod Eight
mod Fitting
pub mod Folds
pub mod Forms
pub mod Kept
pub mod KindLists
pub mod Listed
pub mod Lower
pub mod Outputs
pub mod Parting
pub mod Parts
pub mod Passes
pub mod Ranges
mod Readies
mod Reading
pub mod ReadingOrders
pub mod Refusing
pub mod Resuming
pub mod Standing
pub mod Strides
pub mod Taking
pub mod Terms
pub mod Unpacking
pub mod Working
