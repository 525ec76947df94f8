-- geometry/spherical_polygon.rs and projections/equal_area.rs. Definitions only.
pub mod SphericalPolygon
pub mod EqualArea
